use Rattle.std.proofs.Common.{◌<◌, suc, ℕ, List, ◌++◌, length, take, drop, get_or, sym, ◌∙◌, ap, subst, arith}
use Rattle.std.proofs.Math.Seq.{drop-cons}
use Rattle.std.proofs.lemmas.List.{length-take-le, take-append-drop}
use Rattle.dmr_capture.specs.Blocks.{IsNumbered}
use Rattle.dmr_capture.specs.declared.interface.Interface.{Interface}
use Rattle.dmr_capture.proofs.capture.Capture.interface.Goals as goal

-- an element of a list has its number
numbered : (interfaces : List Interface) (number : ℕ) (other : Interface) → number < length interfaces
    → IsNumbered interfaces number (get_or interfaces number other)
numbered interfaces number other within = (
  take number interfaces,
  drop (suc number) interfaces,
  sym (take-append-drop number interfaces) ∙ ap (λ l. take number interfaces ++ l) (drop-cons interfaces number other within),
  length-take-le number interfaces (omega arith),
)

pub returns-clause-some : goal.returns-clause-some
returns-clause-some c =
    let same = c.deref.ensures.0 ∙ ap (λ s. s.interfaces) c.self.view_is in
    let within : c.args.number < length c.deref.result.now =
    omega (arith, c.if-number-len.false, c.len.ensures.value, ap length c.deref.ensures.0) in
    subst (λ l. IsNumbered l c.args.number (get_or c.deref.result.now c.args.number (record { link = 0; resolution = 0 })))
    same (numbered c.deref.result.now c.args.number (record { link = 0; resolution = 0 }) within)
