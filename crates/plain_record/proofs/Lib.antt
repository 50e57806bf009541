mod LineAt
mod Parts
mod Words
mod PlainLines
