mod FiveSeats
