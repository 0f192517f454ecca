mod EndedParts
