mod Allowing
mod Drawing
mod Rows
mod Trials
