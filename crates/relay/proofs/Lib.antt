mod NoMoreTaken
mod TwoSeats
