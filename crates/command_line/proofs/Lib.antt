mod Words
mod ShownWords
mod Bits
mod Units
