mod ClassesStay
mod Lists
