mod Numbers
mod Days
