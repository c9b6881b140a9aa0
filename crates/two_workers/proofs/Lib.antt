mod OneDisc
