mod OfferLaws
mod TakeLaws
