mod OneWord
mod LongWords
mod Closed
mod Asking
mod First
mod Tables
mod OneCall
mod OneServer
