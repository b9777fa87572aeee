use Rattle.std.proofs.Common.{refl, sym, arith}
use Rattle.std.proofs.lemmas.Grind.{common_steps}
use Rattle.dmr_ip.proofs.Faultless.{IsDatagram-from_none, none-from_IsDatagram}
use Rattle.dmr_ip.proofs.datagram.Datagram.parse.Goals as goal

pub unwrap-requires : goal.unwrap-requires
unwrap-requires c =
    let d = IsDatagram-from_none c.args.octets.now (sym c.in-None.ensures.value) in
    let fits = d.at_most in
    grind (arith, common_steps)

pub invariant_of-result : goal.invariant_of-result
invariant_of-result c =
    let d = IsDatagram-from_none c.args.octets.now (sym c.in-None.ensures.value) in
    let kept = rw c.unwrap.ensures at c.try_from.ensures in
    rw kept.0 d

pub returns-in-Some-clause-datagram : goal.returns-in-Some-clause-datagram
returns-in-Some-clause-datagram c =
    (λ e. cc, λ d. let none = none-from_IsDatagram c.args.octets.now d in let some = c.in-Some.ensures.value in cc)

pub returns-in-None-clause-datagram : goal.returns-in-None-clause-datagram
returns-in-None-clause-datagram c =
    (λ e. IsDatagram-from_none c.args.octets.now (sym c.in-None.ensures.value), λ d. refl)
