use Rattle.lava_streams.proofs.OrderLemmas.{Lists-listing_of}
use Rattle.lava_streams.proofs.laws.listings_are_in_order.Goals as goal

pub returns : goal.returns
returns c = Lists-listing_of
