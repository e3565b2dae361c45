mod Carrying
mod Comparing
mod Recording
