mod Bytes
mod Digits
mod Printing
