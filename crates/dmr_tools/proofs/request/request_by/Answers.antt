use Rattle.std.proofs.Common.{refl}
use Rattle.dmr_options.specs.declared.commands.Listed.TheVariants.{Show, Log, Make, Damage, Compare, Import, Export}
use Rattle.dmr_tools.proofs.request.request_by.Goals as goal

pub returns-in_default-named : goal.returns-in_default-named
returns-in_default-named c =
    let none = c.in_default-named.ensures.none in
    rw c.in-Some.is (record {
      asked = (
        none Show,
        none Log,
        none Make,
        none Damage,
        none Compare,
        λ same named. none Import same,
        λ same named. none Export same,
        refl,
      );
    })
