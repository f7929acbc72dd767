-- Steps, instructions and kernels: document 01, "What crosses the boundary", and answer 15.
pub mod Steps
pub mod Instructions
pub mod Lists
pub mod RoundTrips
pub mod ListLaws
pub mod Named
