mod Tables
mod FadingSpeeds
mod Chains
mod Uncut
