-- What a line is written as is a recording of other slots that mean the same.
use Rattle.std.proofs.Common.{◌≡◌, ◌⊎◌, inl, inr, ℕ, zero, suc, List, [], ◌∷◌, ◌++◌, Bool, replicate, Option, None}
use Rattle.std.proofs.Common.{sym, ap, ◌∙◌, subst}
use Rattle.std.specs.List.{AllByRecursion, AllZip}
use Rattle.dmr_hearing.specs.Damage.{IsRecordedAs}
use Rattle.dmr_hearing.specs.Slots.{SentSlot, vocoder_of}
use Rattle.dmr_link.specs.declared.full_lc.FullLc.{FullLc}
use Rattle.dmr_voice.specs.CallMeaning.{Cell}
use Rattle.dmr_voice.specs.CallRules.{AllCarried}
use Rattle.dmr_voice.specs.DamagedRecordings.{meant}
use Rattle.dmr_voice.specs.Recordings.{AllHeardAs}
use Rattle.dmr_voice.specs.Said.{Said}
use Rattle.dmr_damage.specs.LimitedSlots.{moved_on}
use Rattle.dmr_damage_laws.proofs.Cells.{Agrees, with_none}
use Rattle.dmr_damage_laws.proofs.Decided.{Decided, carried_of, heard_of, outs_of, slots_of}
use Rattle.dmr_damage_laws.proofs.Steps.{AreDue, AreFieldsNext, step}

-- 1. A line, and what it is written as.

-- What was sent in the slots of a line, what was heard and carried, and what was decided.
pub record IsLine (colour : ℕ) (fields : List (Option ℕ)) (cs : List Cell) (ds : List Decided) : Type 0 where
  pub due : AreDue colour fields cs ds
  pub heard : AllHeardAs cs (heard_of ds)
  pub carries : AllCarried colour (heard_of ds) (carried_of ds)

-- No field is damaged.
abbrev pub no_fields : List (Option ℕ)
no_fields = None ∷ None ∷ None ∷ None ∷ []

-- What was decided is a recording of the slots of another value, for which something holds, and these mean the same.
pub record IsRewritten (X : Type 0) (cells_of : X → List Cell) (Holds : X → Type 0) (colour : ℕ) (cs : List Cell)
    (ds : List Decided) : Type 0 where
  pub value : X
  pub holds : Holds value
  pub recorded : AllZip (λ (c : Cell) slot. IsRecordedAs colour c.sent slot) (cells_of value) (outs_of ds)
  pub meaning : meant (cells_of value) (outs_of ds) ≡ meant cs (slots_of ds)

-- So it is however the line was decided.
pub record Rewrites (X : Type 0) (cells_of : X → List Cell) (Holds : X → Type 0) (colour : ℕ) (fields : List (Option ℕ))
    (cs : List Cell) : Type 0 where
  pub by : (ds : List Decided) → IsLine colour fields cs ds → IsRewritten X cells_of Holds colour cs ds

-- the same slots, as those of a value of another kind
pub rewrites_as : {X Y : Type 0} {cells_of : X → List Cell} {Holds : X → Type 0} {colour : ℕ} {fields : List (Option ℕ)}
    {cs : List Cell} (others_of : Y → List Cell) (Also : Y → Type 0) (f : X → Y)
    → ((x : X) → Holds x → cells_of x ≡ others_of (f x)) → ((x : X) → Holds x → Also (f x))
    → Rewrites X cells_of Holds colour fields cs → Rewrites Y others_of Also colour fields cs
rewrites_as {colour = colour} {cs = cs} others_of Also f same also r = record {
  by = λ ds line.
      let w = r.by ds line in
      let is = same w.value w.holds in
      record {
        value = f w.value;
        holds = also w.value w.holds;
        recorded = subst (λ l. AllZip (λ (c : Cell) slot. IsRecordedAs colour c.sent slot) l (outs_of ds)) is w.recorded;
        meaning = ap (λ l. meant l (outs_of ds)) (sym is) ∙ w.meaning;
      };
}

-- 2. Slots that stay as they are.

-- A slot of which no field is damaged, and behind which none is.
pub record IsPlain (c : Cell) : Type 0 where
  pub agrees : Agrees c.sent c.means
  pub never : (vocoder : List Bool) (carried : Option FullLc) (old new : List (Option ℕ))
      → AreFieldsNext (c.means vocoder) carried old new → new ≡ moved_on old

-- behind a plain slot the fields go on
pub goes_on : (c : Cell) (plain : IsPlain c) (vocoder : List Bool) (carried : Option FullLc) (old new : List (Option ℕ))
    → (new ≡ moved_on old) ⊎ AreFieldsNext (c.means vocoder) carried old new → new ≡ moved_on old
goes_on c plain vocoder carried old new (inl e) = e
goes_on c plain vocoder carried old new (inr n) = plain.never vocoder carried old new n

-- Rows with the same first and the same rest are the same.
pub both_same : (x y : Said) (xs ys : List Said) → x ≡ y → xs ≡ ys → x ∷ xs ≡ y ∷ ys
both_same x y xs ys p q = cc

one_plain : (X : Type 0) (cells_of : X → List Cell) (Holds : X → Type 0) (colour : ℕ) (c : Cell) (more : List Cell) → IsPlain c
    → Rewrites X cells_of Holds colour no_fields more → (ds : List Decided) → IsLine colour no_fields (c ∷ more) ds
    → IsRewritten X (λ x. c ∷ cells_of x) Holds colour (c ∷ more) ds
one_plain X cells_of Holds colour c more plain rest [] line = absurd line.due
one_plain X cells_of Holds colour c more plain rest (d ∷ ds) line =
    let (new, how, due) = line.due in
    let s = step colour no_fields c d new plain.agrees line.heard.0 how in
    let same : new ≡ no_fields = goes_on c plain d.heard.vocoder d.carried no_fields new s.next in
    let w = rest.by ds (record {
      due = subst (λ f. AreDue colour f more ds) same due;
      heard = line.heard.1;
      carries = line.carries.1;
    }) in
    record {
      value = w.value;
      holds = w.holds;
      recorded = (subst (λ (x : SentSlot). IsRecordedAs colour x d.out) (with_none c.sent) s.written.recorded, w.recorded);
      meaning = both_same (c.means (vocoder_of d.out)) (c.means (vocoder_of d.slot)) (meant (cells_of w.value) (outs_of ds))
          (meant more (slots_of ds)) s.written.means_alike w.meaning;
    }

-- plain slots in front of others stay as they are
pub plain : {X : Type 0} {cells_of : X → List Cell} {Holds : X → Type 0} {colour : ℕ} {more : List Cell} (cs : List Cell)
    → AllByRecursion IsPlain cs → Rewrites X cells_of Holds colour no_fields more
    → Rewrites X (λ x. cs ++ cells_of x) Holds colour no_fields (cs ++ more)
plain [] all rest = rest
plain {X = X} {cells_of = cells_of} {Holds = Holds} {colour = colour} {more = more} (c ∷ cs) all rest =
    record {
      by = λ ds line. one_plain X (λ x. cs ++ cells_of x) Holds colour c (cs ++ more) all.0 (plain cs all.1 rest) ds line;
    }

-- plain slots in two parts
pub all_plain : (xs ys : List Cell) → AllByRecursion IsPlain xs → AllByRecursion IsPlain ys → AllByRecursion IsPlain (xs ++ ys)
all_plain [] ys p q = q
all_plain (x ∷ xs) ys p q = (p.0, all_plain xs ys p.1 q)

-- A plain cell that is repeated is plain each time.
pub plain_again : (n : ℕ) (c : Cell) → IsPlain c → AllByRecursion IsPlain (replicate n c)
plain_again zero c p = tt
plain_again (suc n) c p = (p, plain_again n c p)
