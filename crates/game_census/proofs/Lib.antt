mod Numbers
mod Sure
mod Reading
