pub mod FredDelivery
