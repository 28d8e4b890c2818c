mod Dealt
mod ReadBack
mod Fitting
mod OfStep
mod Ahead
mod Settled
mod Again
