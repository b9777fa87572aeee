use Rattle.std.proofs.Common.{◌≡◌, ◌∙◌, ap, sym, subst}
use Rattle.dmr_rs.specs.Field.{times, IsProduct}
use Rattle.dmr_rs.proofs.Products.{product_is, only_product}
use Rattle.dmr_rs.proofs.Field.{times-lt}
use Rattle.dmr_rs.proofs.octet.OctetMul.mul.Goals as goal

pub returns-clause-product : goal.returns-clause-product
returns-clause-product c =
    let value : c.product.result ≡ times c.args.self c.args.other =
    c.product.ensures.value ∙ ap (λ n. times n c.other.inside.value) c.self.view_is ∙ ap (times c.args.self) c.other.view_is in
    subst (IsProduct c.args.self c.args.other) (sym value) (product_is c.args.self c.args.other)

pub returns-clause-only : goal.returns-clause-only
returns-clause-only c octet small is =
    let value : c.product.result ≡ times c.args.self c.args.other =
    c.product.ensures.value ∙ ap (λ n. times n c.other.inside.value) c.self.view_is ∙ ap (times c.args.self) c.other.view_is in
    only_product c.args.self c.args.other octet (times c.args.self c.args.other) small (times-lt c.args.self c.args.other) is
    (product_is c.args.self c.args.other)
    ∙ sym value
