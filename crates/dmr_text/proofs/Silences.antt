-- Silent slots of a recording, one behind the other.
use Rattle.std.proofs.Common.{◌≡◌, ℕ, ◌+◌, ◌-◌, ◌<◌, zero, suc, List, [], ◌∷◌, ◌++◌, Option, None, Some, Result, Ok, Err, refl}
use Rattle.std.proofs.Common.{sym, ap, ◌∙◌, subst, arith, append-nil}
use Rattle.std.specs.Prelude.{OnErr}
use Rattle.std.proofs.lemmas.List.Concat.{flat_map-append}
use Rattle.std.proofs.Math.ListN.{replicate}
use Rattle.std.specs.List.{flat_map}
use Rattle.std.specs.Io.KnownBytes.{Appends}
use Rattle.std.proofs.KnownBytes.{Appends-nil, Appends-trans}
use Rattle.dmr_record.specs.Devices.{Tears}
use Rattle.dmr_record.proofs.Torn.{Tears_after, Tears_more}
use Rattle.dmr_recording.specs.Recordings.{RecordedSlot, spelling}
use Rattle.dmr_recording.specs.declared.recording.RecordedBurst.{RecordedBurst}
use Rattle.dmr_recording.specs.declared.recording.Recording.{Recording}
use Rattle.dmr_recording.specs.declared.recording.Recording.TheVariants.{Uplink, Downlink}

-- so many silent slots
abbrev pub silent : ℕ → List RecordedSlot
silent n = replicate n None

-- the octets of so many silent slots
abbrev pub silent_octets : Recording → ℕ → List ℕ
silent_octets of n = flat_map (spelling of) (silent n)

octet_first : (of : Recording) (n : ℕ) → silent_octets of (suc n) ≡ 0 ∷ silent_octets of n
octet_first Uplink n = refl
octet_first Downlink n = refl

octets_both : (of : Recording) (m n : ℕ) → silent_octets of (m + n) ≡ silent_octets of m ++ silent_octets of n
octets_both of zero n = ap (λ (k : ℕ). silent_octets of k) (let e : 0 + n ≡ n = omega arith in e)
octets_both of (suc m) n =
    ap (λ (k : ℕ). silent_octets of k) (let e : suc m + n ≡ suc (m + n) = omega arith in e)
    ∙ octet_first of (m + n)
    ∙ ap (λ (l : List ℕ). 0 ∷ l) (octets_both of m n)
    ∙ ap (λ (l : List ℕ). l ++ silent_octets of n) (sym (octet_first of m))

octets_one : (of : Recording) → silent_octets of 1 ≡ 0 ∷ []
octets_one Uplink = refl
octets_one Downlink = refl

octets_next : (of : Recording) (n : ℕ) → silent_octets of (n + 1) ≡ silent_octets of n ++ 0 ∷ []
octets_next of n = octets_both of n 1 ∙ ap (λ (l : List ℕ). silent_octets of n ++ l) (octets_one of)

pub silence_none : (of : Recording) (a : Option (List ℕ)) → Appends a a (silent_octets of 0)
silence_none of a = Appends-nil a

pub silence_more : (of : Recording) (n : ℕ) (a b c : Option (List ℕ)) → Appends a b (silent_octets of n) → Appends b c (0 ∷ [])
    → Appends a c (silent_octets of (n + 1))
silence_more of n a b c written more =
    subst (Appends a c) (sym (octets_next of n)) (Appends-trans a b c (silent_octets of n) (0 ∷ []) written more)

-- where fewer silent slots than there should be were written, and the next one torn, all of them are torn
pub silence_torn : (of : Recording) (n count : ℕ) (a b c : Option (List ℕ)) → n < count → Appends a b (silent_octets of n)
    → Tears b c (0 ∷ []) → Tears a c (silent_octets of count)
silence_torn of n count a b c below written torn =
    let e : count ≡ (n + 1) + (count - n - 1) = omega arith in
    subst (λ (k : ℕ). Tears a c (silent_octets of k)) (sym e)
    (subst (Tears a c) (sym (octets_both of (n + 1) (count - n - 1)))
    (Tears_more a c (silent_octets of (n + 1)) (silent_octets of (count - n - 1))
    (subst (Tears a c) (sym (octets_next of n)) (Tears_after a b c (silent_octets of n) (0 ∷ []) written torn))))

named_octets : (of : Recording) (n : ℕ) (burst : RecordedBurst)
    → flat_map (spelling of) (silent n ++ Some burst ∷ []) ≡ silent_octets of n ++ spelling of (Some burst)
named_octets of n burst =
    flat_map-append (spelling of) (silent n) (Some burst ∷ [])
    ∙ ap (λ (l : List ℕ). silent_octets of n ++ l) (append-nil (spelling of (Some burst)))

-- a burst behind silent slots was torn
pub named_torn : {E : Type 0} (result : Result Unit E) (of : Recording) (n : ℕ) (burst : RecordedBurst) (a b c : Option (List ℕ))
    → Appends a b (silent_octets of n) → OnErr result (Tears b c (spelling of (Some burst)))
    → OnErr result (Tears a c (flat_map (spelling of) (silent n ++ Some burst ∷ [])))
named_torn (Ok x) of n burst a b c written torn = tt
named_torn (Err e) of n burst a b c written torn =
    subst (Tears a c) (sym (named_octets of n burst))
    (Tears_after a b c (silent_octets of n) (spelling of (Some burst)) written torn)
