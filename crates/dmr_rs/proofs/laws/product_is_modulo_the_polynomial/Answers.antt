use Rattle.dmr_rs.proofs.Products.{product_is}
use Rattle.dmr_rs.proofs.laws.product_is_modulo_the_polynomial.Goals as goal

pub returns : goal.returns
returns c = record { law = product_is }
