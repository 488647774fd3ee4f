pub mod SummaryFalls
