-- What another colour code sends, as the parts that are heard of it.
use Rattle.std.proofs.Common.{◌≡◌, ◌≢◌, ℕ, zero, suc, ◌+◌, ◌≤◌, ◌==◌, Bool, true, false, ◌&&◌, List, [], ◌∷◌, ◌++◌, map}
use Rattle.std.proofs.Common.{replicate, flat_map, Option, Some, None, arith, refl, ap, subst, sym, ◌∙◌, append_assoc}
use Rattle.std.proofs.lemmas.List.{map-append}
use Rattle.dmr_making.proofs.CallSlots.{both}
use Rattle.std.specs.List.{AllByRecursion}
use Rattle.dmr_burst.specs.declared.emb.Emb.{Emb}
use Rattle.dmr_hearing.specs.Damage.{IsSentSlot}
use Rattle.dmr_hearing.specs.Slots.{SentSlot, Silent, Data, VoiceSync, Voice, ForeignVoice, ForeignData, CutOff}
use Rattle.dmr_making_laws.specs.Lists.{parts_from}
use Rattle.dmr_script.specs.Foreign.{has_embs}
use Rattle.dmr_script.specs.Shapes.{next_place, there_within}
use Rattle.dmr_script.specs.declared.shape.Place.{Place}
use Rattle.dmr_script.specs.declared.shape.Place.TheVariants as letter
use Rattle.dmr_voice.specs.CallMeaning.{Cell, Foreign, foreign_cells, unsaid}
use Rattle.dmr_voice.specs.WellFormed.{IsForeign}

-- 1. Slots that are told.

-- Behind each voice sync stands an EMB within five slots, with nothing but silences between. Where a sync waits, so many stand
-- behind it.
abbrev pub AreTold : Option ℕ → List SentSlot → Type 0
AreTold None [] = Unit {0}
AreTold (Some silences) [] = ⊥
AreTold None (Silent ∷ slots) = AreTold None slots
AreTold (Some silences) (Silent ∷ slots) = AreTold (Some (suc silences)) slots
AreTold None (Data kind information lc ∷ slots) = AreTold None slots
AreTold (Some silences) (Data kind information lc ∷ slots) = ⊥
AreTold None (VoiceSync ∷ slots) = AreTold (Some 0) slots
AreTold (Some silences) (VoiceSync ∷ slots) = ⊥
AreTold None (Voice emb embedded ∷ slots) = AreTold None slots
AreTold (Some silences) (Voice emb embedded ∷ slots) = (silences ≤ 4) × AreTold None slots
AreTold waits (ForeignVoice emb ∷ slots) = ⊥
AreTold waits (ForeignData ∷ slots) = ⊥
AreTold waits (CutOff ∷ slots) = ⊥

-- how a slot is heard in a channel of another colour code
abbrev pub foreign_slot : SentSlot → SentSlot
foreign_slot Silent = Silent
foreign_slot (Data kind information lc) = ForeignData
foreign_slot VoiceSync = VoiceSync
foreign_slot (Voice emb embedded) = ForeignVoice emb
foreign_slot (ForeignVoice emb) = ForeignVoice emb
foreign_slot ForeignData = ForeignData
foreign_slot CutOff = CutOff

-- 2. Their parts.

-- numbers that differ
apart : (a b c : ℕ) → a ≡ c → c ≢ b → (a == b) ≡ false
apart a b c e f = grind arith

-- they have another colour code
pub parts_foreign : (own colour : ℕ) (waits : Option ℕ) (slots : List SentSlot) → colour ≢ own → AreTold waits slots
    → AllByRecursion (IsSentSlot colour) slots → AllByRecursion (IsForeign own) (parts_from waits slots)
parts_foreign own colour None [] other told may = tt
parts_foreign own colour (Some n) [] other told may = absurd told
parts_foreign own colour None (Silent ∷ slots) other told may = (tt, parts_foreign own colour None slots other told may.1)
parts_foreign own colour (Some n) (Silent ∷ slots) other told may =
    parts_foreign own colour (Some (suc n)) slots other told may.1
parts_foreign own colour None (Data kind information lc ∷ slots) other told may =
    (tt, parts_foreign own colour None slots other told may.1)
parts_foreign own colour (Some n) (Data kind information lc ∷ slots) other told may = absurd told
parts_foreign own colour None (VoiceSync ∷ slots) other told may = parts_foreign own colour (Some 0) slots other told may.1
parts_foreign own colour (Some n) (VoiceSync ∷ slots) other told may = absurd told
parts_foreign own colour None (Voice emb embedded ∷ slots) other told may =
    (apart emb.colour own colour may.0 other, parts_foreign own colour None slots other told may.1)
parts_foreign own colour (Some n) (Voice emb embedded ∷ slots) other told may =
    ((told.0, apart emb.colour own colour may.0 other), parts_foreign own colour None slots other told.1 may.1)
parts_foreign own colour waits (ForeignVoice emb ∷ slots) other told may = absurd told
parts_foreign own colour waits (ForeignData ∷ slots) other told may = absurd told
parts_foreign own colour waits (CutOff ∷ slots) other told may = absurd told

-- what cells send
abbrev pub sent_by : List Cell → List SentSlot
sent_by cs = map (λ c. c.sent) cs

-- a sync that waits, and the silences behind it
abbrev pub waiting : Option ℕ → List SentSlot
waiting None = []
waiting (Some n) = VoiceSync ∷ replicate n Silent

-- a part is sent in front of others
part_sent : (part : Foreign) (parts : List Foreign)
    → sent_by (flat_map foreign_cells (part ∷ parts)) ≡ sent_by (foreign_cells part) ++ sent_by (flat_map foreign_cells parts)
part_sent part parts = map-append (λ (c : Cell). c.sent) (foreign_cells part) (flat_map foreign_cells parts)

-- one more silence
silence_more : (n : ℕ) (slots : List SentSlot) → replicate (suc n) Silent ++ slots ≡ replicate n Silent ++ (Silent ∷ slots)
silence_more zero slots = refl
silence_more (suc n) slots = ap (λ (l : List SentSlot). Silent ∷ l) (silence_more n slots)

silences_sent : (n : ℕ) → sent_by (replicate n (unsaid Silent)) ≡ replicate n Silent
silences_sent zero = refl
silences_sent (suc n) = ap (λ (l : List SentSlot). Silent ∷ l) (silences_sent n)

-- what a sync and its EMB send
sync_sent : (n : ℕ) (emb : Emb)
    → sent_by (replicate n (unsaid Silent) ++ unsaid (ForeignVoice emb) ∷ []) ≡ replicate n Silent ++ ForeignVoice emb ∷ []
sync_sent n emb =
    map-append (λ (c : Cell). c.sent) (replicate n (unsaid Silent)) (unsaid (ForeignVoice emb) ∷ [])
    ∙ ap (λ (l : List SentSlot). l ++ ForeignVoice emb ∷ []) (silences_sent n)

-- So the slots are those of the parts that are heard of them.
pub parts_sent : (waits : Option ℕ) (slots : List SentSlot) → AreTold waits slots
    → sent_by (flat_map foreign_cells (parts_from waits slots)) ≡ waiting waits ++ map foreign_slot slots
parts_sent None [] told = refl
parts_sent (Some n) [] told = absurd told
parts_sent None (Silent ∷ slots) told = ap (λ (l : List SentSlot). Silent ∷ l) (parts_sent None slots told)
parts_sent (Some n) (Silent ∷ slots) told =
    parts_sent (Some (suc n)) slots told ∙ ap (λ (l : List SentSlot). VoiceSync ∷ l) (silence_more n (map foreign_slot slots))
parts_sent None (Data kind information lc ∷ slots) told =
    ap (λ (l : List SentSlot). ForeignData ∷ l) (parts_sent None slots told)
parts_sent (Some n) (Data kind information lc ∷ slots) told = absurd told
parts_sent None (VoiceSync ∷ slots) told = parts_sent (Some 0) slots told
parts_sent (Some n) (VoiceSync ∷ slots) told = absurd told
parts_sent None (Voice emb embedded ∷ slots) told =
    ap (λ (l : List SentSlot). ForeignVoice emb ∷ l) (parts_sent None slots told)
parts_sent (Some n) (Voice emb embedded ∷ slots) told =
    let rest : List SentSlot = map foreign_slot slots in
    map-append (λ (c : Cell). c.sent) (unsaid VoiceSync ∷ (replicate n (unsaid Silent) ++ unsaid (ForeignVoice emb) ∷ []))
    (flat_map foreign_cells (parts_from None slots))
    ∙ both (VoiceSync ∷ sent_by (replicate n (unsaid Silent) ++ unsaid (ForeignVoice emb) ∷ []))
    (sent_by (flat_map foreign_cells (parts_from None slots))) (VoiceSync ∷ (replicate n Silent ++ ForeignVoice emb ∷ [])) rest
    (ap (λ (l : List SentSlot). VoiceSync ∷ l) (sync_sent n emb)) (parts_sent None slots told.1)
    ∙ ap (λ (l : List SentSlot). VoiceSync ∷ l) (append_assoc (replicate n Silent) (ForeignVoice emb ∷ []) rest)
parts_sent waits (ForeignVoice emb ∷ slots) told = absurd told
parts_sent waits (ForeignData ∷ slots) told = absurd told
parts_sent waits (CutOff ∷ slots) told = absurd told

-- 3. Which slots are.

-- no sync is sent in the slot
abbrev pub IsNoSync : SentSlot → Type 0
IsNoSync Silent = Unit {0}
IsNoSync (Data kind information lc) = Unit {0}
IsNoSync VoiceSync = ⊥
IsNoSync (Voice emb embedded) = Unit {0}
IsNoSync (ForeignVoice emb) = ⊥
IsNoSync ForeignData = ⊥
IsNoSync CutOff = ⊥

-- where none is sent they are
pub told_plain : (slots rest : List SentSlot) → AllByRecursion IsNoSync slots → AreTold None rest → AreTold None (slots ++ rest)
told_plain [] rest p told = told
told_plain (Silent ∷ slots) rest p told = told_plain slots rest p.1 told
told_plain (Data kind information lc ∷ slots) rest p told = told_plain slots rest p.1 told
told_plain (VoiceSync ∷ slots) rest p told = absurd p.0
told_plain (Voice emb embedded ∷ slots) rest p told = told_plain slots rest p.1 told
told_plain (ForeignVoice emb ∷ slots) rest p told = absurd p.0
told_plain (ForeignData ∷ slots) rest p told = absurd p.0
told_plain (CutOff ∷ slots) rest p told = absurd p.0

-- a voice burst with an EMB
abbrev pub IsVoiceSlot : SentSlot → Type 0
IsVoiceSlot slot = (emb : Emb) × (embedded : ℕ) × (slot ≡ Voice emb embedded)

-- what a place sends, there or absent
abbrev pub IsSentPlace : Place → Bool → SentSlot → Type 0
IsSentPlace place false slot = slot ≡ Silent
IsSentPlace letter.A true slot = slot ≡ VoiceSync
IsSentPlace letter.B true slot = IsVoiceSlot slot
IsSentPlace letter.C true slot = IsVoiceSlot slot
IsSentPlace letter.D true slot = IsVoiceSlot slot
IsSentPlace letter.E true slot = IsVoiceSlot slot
IsSentPlace letter.F true slot = IsVoiceSlot slot

-- slots send these places, from this one on
abbrev pub ArePlacesSent : Place → List Bool → List SentSlot → Type 0
ArePlacesSent place [] [] = Unit {0}
ArePlacesSent place [] (slot ∷ slots) = ⊥
ArePlacesSent place (there ∷ more) [] = ⊥
ArePlacesSent place (there ∷ more) (slot ∷ slots) = IsSentPlace place there slot × ArePlacesSent (next_place place) more slots

-- how many places stand from this one on up to the next A
abbrev behind_sync : Place → ℕ
behind_sync letter.A = 0
behind_sync letter.B = 5
behind_sync letter.C = 4
behind_sync letter.D = 3
behind_sync letter.E = 2
behind_sync letter.F = 1

-- where a sync waits behind so many silences, one of the next so many places is there
abbrev IsAwaited : Place → Option ℕ → ℕ → List Bool → Type 0
IsAwaited place None within places = Unit {0}
IsAwaited place (Some n) within places =
    (there_within within false places ≡ true) × (within ≤ behind_sync place) × (n + within ≤ 5)

both_left : (a b : Bool) → a && b ≡ true → a ≡ true
both_left true b e = refl
both_left false b e = e

both_right : (a b : Bool) → a && b ≡ true → b ≡ true
both_right true b e = e
both_right false b e = absurd (cc)

-- a slot that is silent, with others behind it
as_silent : (waits : Option ℕ) (slot : SentSlot) (slots : List SentSlot) → slot ≡ Silent → AreTold waits (Silent ∷ slots)
    → AreTold waits (slot ∷ slots)
as_silent waits slot slots e told = subst (λ (s : SentSlot). AreTold waits (s ∷ slots)) (sym e) told

-- with an EMB
as_voice : (slot : SentSlot) (slots : List SentSlot) → IsVoiceSlot slot → AreTold None slots → AreTold None (slot ∷ slots)
as_voice slot slots v told = subst (λ (s : SentSlot). AreTold None (s ∷ slots)) (sym v.2) told

as_awaited : (n : ℕ) (slot : SentSlot) (slots : List SentSlot) → IsVoiceSlot slot → n ≤ 4 → AreTold None slots
    → AreTold (Some n) (slot ∷ slots)
as_awaited n slot slots v le told = subst (λ (s : SentSlot). AreTold (Some n) (s ∷ slots)) (sym v.2) (le, told)

-- a sync
as_sync : (slot : SentSlot) (slots : List SentSlot) → slot ≡ VoiceSync → AreTold (Some 0) slots → AreTold None (slot ∷ slots)
as_sync slot slots e told = subst (λ (s : SentSlot). AreTold None (s ∷ slots)) (sym e) told

-- no place is within none
none_within : (places : List Bool) → there_within 0 false places ≡ true → ⊥
none_within places e = cc

-- Slots that send the places of a call are told, where behind each A that is there one of the five places that follow is.
told_from : (place : Place) (waits : Option ℕ) (within : ℕ) (places : List Bool) (slots rest : List SentSlot)
    → IsAwaited place waits within places → has_embs place places ≡ true → ArePlacesSent place places slots → AreTold None rest
    → AreTold waits (slots ++ rest)
told_from place None within [] [] rest w e s told = told
told_from place (Some n) zero [] [] rest w e s told = absurd (none_within [] w.0)
told_from place (Some n) (suc k) [] [] rest w e s told = let none = w.0 in absurd (cc)
told_from place waits within [] (slot ∷ slots) rest w e s told = absurd s
told_from place waits within (b ∷ bs) [] rest w e s told = absurd s
told_from letter.A None within (false ∷ bs) (slot ∷ slots) rest w e s told =
    as_silent None slot (slots ++ rest) s.0 (told_from letter.B None 0 bs slots rest tt e s.1 told)
told_from letter.B None within (false ∷ bs) (slot ∷ slots) rest w e s told =
    as_silent None slot (slots ++ rest) s.0 (told_from letter.C None 0 bs slots rest tt e s.1 told)
told_from letter.C None within (false ∷ bs) (slot ∷ slots) rest w e s told =
    as_silent None slot (slots ++ rest) s.0 (told_from letter.D None 0 bs slots rest tt e s.1 told)
told_from letter.D None within (false ∷ bs) (slot ∷ slots) rest w e s told =
    as_silent None slot (slots ++ rest) s.0 (told_from letter.E None 0 bs slots rest tt e s.1 told)
told_from letter.E None within (false ∷ bs) (slot ∷ slots) rest w e s told =
    as_silent None slot (slots ++ rest) s.0 (told_from letter.F None 0 bs slots rest tt e s.1 told)
told_from letter.F None within (false ∷ bs) (slot ∷ slots) rest w e s told =
    as_silent None slot (slots ++ rest) s.0 (told_from letter.A None 0 bs slots rest tt e s.1 told)
told_from letter.A None within (true ∷ bs) (slot ∷ slots) rest w e s told =
    let near : there_within 5 false bs ≡ true = both_left (there_within 5 false bs) (has_embs letter.B bs) e in
    let more : has_embs letter.B bs ≡ true = both_right (there_within 5 false bs) (has_embs letter.B bs) e in
    as_sync slot (slots ++ rest) s.0
    (told_from letter.B (Some 0) 5 bs slots rest (near, omega arith, omega arith) more s.1 told)
told_from letter.B None within (true ∷ bs) (slot ∷ slots) rest w e s told =
    as_voice slot (slots ++ rest) s.0 (told_from letter.C None 0 bs slots rest tt e s.1 told)
told_from letter.C None within (true ∷ bs) (slot ∷ slots) rest w e s told =
    as_voice slot (slots ++ rest) s.0 (told_from letter.D None 0 bs slots rest tt e s.1 told)
told_from letter.D None within (true ∷ bs) (slot ∷ slots) rest w e s told =
    as_voice slot (slots ++ rest) s.0 (told_from letter.E None 0 bs slots rest tt e s.1 told)
told_from letter.E None within (true ∷ bs) (slot ∷ slots) rest w e s told =
    as_voice slot (slots ++ rest) s.0 (told_from letter.F None 0 bs slots rest tt e s.1 told)
told_from letter.F None within (true ∷ bs) (slot ∷ slots) rest w e s told =
    as_voice slot (slots ++ rest) s.0 (told_from letter.A None 0 bs slots rest tt e s.1 told)
told_from letter.A (Some n) zero (b ∷ bs) (slot ∷ slots) rest w e s told = absurd (none_within (b ∷ bs) w.0)
told_from letter.A (Some n) (suc k) (b ∷ bs) (slot ∷ slots) rest w e s told = let few = w.1 in absurd (omega (arith, few))
told_from letter.B (Some n) zero (b ∷ bs) (slot ∷ slots) rest w e s told = absurd (none_within (b ∷ bs) w.0)
told_from letter.B (Some n) (suc k) (true ∷ bs) (slot ∷ slots) rest w e s told =
    let near = w.2 in
    as_awaited n slot (slots ++ rest) s.0 (omega (arith, near))
    (told_from letter.C None 0 bs slots rest tt e s.1 told)
told_from letter.B (Some n) (suc k) (false ∷ bs) (slot ∷ slots) rest w e s told =
    let few = w.1 in
    let near = w.2 in
    as_silent (Some n) slot (slots ++ rest) s.0
    (told_from letter.C (Some (suc n)) k bs slots rest (w.0, omega (arith, few), omega (arith, near)) e s.1 told)
told_from letter.C (Some n) zero (b ∷ bs) (slot ∷ slots) rest w e s told = absurd (none_within (b ∷ bs) w.0)
told_from letter.C (Some n) (suc k) (true ∷ bs) (slot ∷ slots) rest w e s told =
    let near = w.2 in
    as_awaited n slot (slots ++ rest) s.0 (omega (arith, near))
    (told_from letter.D None 0 bs slots rest tt e s.1 told)
told_from letter.C (Some n) (suc k) (false ∷ bs) (slot ∷ slots) rest w e s told =
    let few = w.1 in
    let near = w.2 in
    as_silent (Some n) slot (slots ++ rest) s.0
    (told_from letter.D (Some (suc n)) k bs slots rest (w.0, omega (arith, few), omega (arith, near)) e s.1 told)
told_from letter.D (Some n) zero (b ∷ bs) (slot ∷ slots) rest w e s told = absurd (none_within (b ∷ bs) w.0)
told_from letter.D (Some n) (suc k) (true ∷ bs) (slot ∷ slots) rest w e s told =
    let near = w.2 in
    as_awaited n slot (slots ++ rest) s.0 (omega (arith, near))
    (told_from letter.E None 0 bs slots rest tt e s.1 told)
told_from letter.D (Some n) (suc k) (false ∷ bs) (slot ∷ slots) rest w e s told =
    let few = w.1 in
    let near = w.2 in
    as_silent (Some n) slot (slots ++ rest) s.0
    (told_from letter.E (Some (suc n)) k bs slots rest (w.0, omega (arith, few), omega (arith, near)) e s.1 told)
told_from letter.E (Some n) zero (b ∷ bs) (slot ∷ slots) rest w e s told = absurd (none_within (b ∷ bs) w.0)
told_from letter.E (Some n) (suc k) (true ∷ bs) (slot ∷ slots) rest w e s told =
    let near = w.2 in
    as_awaited n slot (slots ++ rest) s.0 (omega (arith, near))
    (told_from letter.F None 0 bs slots rest tt e s.1 told)
told_from letter.E (Some n) (suc k) (false ∷ bs) (slot ∷ slots) rest w e s told =
    let few = w.1 in
    let near = w.2 in
    as_silent (Some n) slot (slots ++ rest) s.0
    (told_from letter.F (Some (suc n)) k bs slots rest (w.0, omega (arith, few), omega (arith, near)) e s.1 told)
told_from letter.F (Some n) zero (b ∷ bs) (slot ∷ slots) rest w e s told = absurd (none_within (b ∷ bs) w.0)
told_from letter.F (Some n) (suc k) (true ∷ bs) (slot ∷ slots) rest w e s told =
    let near = w.2 in
    as_awaited n slot (slots ++ rest) s.0 (omega (arith, near))
    (told_from letter.A None 0 bs slots rest tt e s.1 told)
told_from letter.F (Some n) (suc k) (false ∷ bs) (slot ∷ slots) rest w e s told =
    let few = w.1 in
    let near = w.2 in
    as_silent (Some n) slot (slots ++ rest) s.0
    (told_from letter.A (Some (suc n)) k bs slots rest (w.0, omega (arith, few), omega (arith, near)) e s.1 told)

-- The voice of a call is told, with what is told behind it.
pub told_places : (places : List Bool) (slots rest : List SentSlot) → has_embs letter.A places ≡ true
    → ArePlacesSent letter.A places slots → AreTold None rest → AreTold None (slots ++ rest)
told_places places slots rest e s told = told_from letter.A None 0 places slots rest tt e s told
