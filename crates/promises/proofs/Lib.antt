-- The theorems that rest on another theorem or on a worked example, in the order of the files of specs/ that they speak of.
pub mod Tables
pub mod Demand3
pub mod Listings
