mod Epochs
