pub mod MarksBack
