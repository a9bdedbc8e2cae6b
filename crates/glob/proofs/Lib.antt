mod PiecesAfterStar
mod Patterns
mod Excluding
