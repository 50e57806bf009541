mod NotationWords
mod NotationTexts
mod NotationPrints
mod PrintedTaken
