mod Feeds
mod Texts
mod Turns
