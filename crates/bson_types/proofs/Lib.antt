mod Again
mod Levels
mod Written
mod Enveloped
mod FromSources
