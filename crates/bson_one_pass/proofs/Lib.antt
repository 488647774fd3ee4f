mod Whole
mod HandedOver
