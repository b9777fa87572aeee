-- What a slot of a recording is written as within the limits is a recording of transmissions that mean the same.
use Rattle.std.proofs.Common.{◌≡◌, ℕ, zero, suc, List, [], ◌∷◌, ◌++◌, map, take, length, replicate, Option, None}
use Rattle.std.proofs.Common.{refl, sym, ap, ◌∙◌, subst}
use Rattle.std.proofs.lemmas.List.{map-append, length-map}
use Rattle.std.specs.List.{AllZip}
use Rattle.dmr_hearing.specs.Damage.{IsRecordedAs}
use Rattle.dmr_hearing.specs.Slots.{Silent, vocoder_of}
use Rattle.dmr_voice.proofs.Law.{carried_behind}
use Rattle.dmr_voice.proofs.Recorded.{heard_as_sent, repeats_damaged_recordings}
use Rattle.dmr_voice.specs.CallMeaning.{Cell, Transmission, sent_list, unsaid}
use Rattle.dmr_voice.specs.CallRules.{AllCarried}
use Rattle.dmr_voice.specs.DamagedRecordings.{IsDamagedRecordingOf, meant}
use Rattle.dmr_voice.specs.Recordings.{AllHeardAs}
use Rattle.dmr_voice.specs.WellFormed.{IsWellFormed}
use Rattle.dmr_damage.specs.LimitedSlots.{fresh_memory}
use Rattle.dmr_damage_laws.proofs.Decided.{ArePlaces, Decided, carried_of, decided, heard_of, outs_of, places_carry, places_heard}
use Rattle.dmr_damage_laws.proofs.Decided.{slots_of}
use Rattle.dmr_damage_laws.proofs.Lists.{AreSent, every, pause_plain}
use Rattle.dmr_damage_laws.proofs.Rewriting.{IsLine, IsRewritten, no_fields, plain}
use Rattle.dmr_damage_laws.proofs.Steps.{due, past}
use Rattle.dmr_damage_laws.specs.DamagedSlots.{DamagedSlotsMeanTheSame, MeansTheSame}

map_again : {X Y : Type 0} (f : X → Y) (n : ℕ) (x : X) → map f (replicate n x) ≡ replicate n (f x)
map_again f zero x = refl
map_again f (suc n) x = ap (λ l. f x ∷ l) (map_again f n x)

with_past : {Y : Type 0} (f : Decided → Y) (ds : List Decided) (m : ℕ)
    → map f (ds ++ replicate m past) ≡ map f ds ++ replicate m (f past)
with_past f ds m = map-append f ds (replicate m past) ∙ ap (λ l. map f ds ++ l) (map_again f m past)

meant_front : (cs : List Cell) (slots more : List (Option (List ℕ)))
    → take (length slots) (meant cs (slots ++ more)) ≡ meant cs slots
meant_front [] [] more = refl
meant_front [] (slot ∷ slots) more = refl
meant_front (c ∷ cs) [] more = refl
meant_front (c ∷ cs) (slot ∷ slots) more = ap (λ l. c.means (vocoder_of slot) ∷ l) (meant_front cs slots more)

-- what was decided in all slots of a recording
of_decided : (colour lead : ℕ) (ts : List (Transmission × ℕ)) (ds : List Decided) → IsWellFormed colour ts
    → IsDamagedRecordingOf colour (sent_list colour lead ts) (slots_of ds) → ArePlaces colour fresh_memory ds
    → MeansTheSame colour lead ts (slots_of ds) (outs_of ds)
of_decided colour lead ts ds well (m, recorded) places =
    let cs : List Cell = sent_list colour lead ts in
    let hs = heard_of ds in
    let heard = places_heard colour fresh_memory ds places in
    let carries = places_carry colour fresh_memory ds places in
    let says = repeats_damaged_recordings colour lead ts (slots_of ds) hs (carried_of ds) well (m, recorded) heard carries in
    let more : List Decided = ds ++ replicate m past in
    let line : IsLine colour no_fields cs more = record {
      due = due colour fresh_memory cs ds m recorded says places;
      heard = subst (AllHeardAs cs) (sym (with_past (λ (d : Decided). d.heard) ds m))
          (heard_as_sent colour cs (slots_of ds) hs m recorded heard);
      carries = subst (λ ks. AllCarried colour (heard_of more) ks) (sym (with_past (λ (d : Decided). d.carried) ds m))
          (subst (λ l. AllCarried colour l (carried_of ds ++ replicate m None)) (sym (with_past (λ (d : Decided). d.heard) ds m))
          (carried_behind colour m hs (carried_of ds) carries));
    } in
    let w : IsRewritten (List (Transmission × ℕ)) (λ x. sent_list colour lead x) (AreSent colour ts) colour cs more =
    (plain (replicate lead (unsaid Silent)) (pause_plain lead) (every colour ts well)).by more line in
    let others : List Cell = sent_list colour lead w.value in
    let outs = with_past (λ (d : Decided). d.out) ds m in
    let slots = with_past (λ (d : Decided). d.slot) ds m in
    let long : length (outs_of ds) ≡ length (slots_of ds) =
    length-map ds (λ (d : Decided). d.out) ∙ sym (length-map ds (λ (d : Decided). d.slot)) in
    let all : meant others (outs_of ds ++ replicate m None) ≡ meant cs (slots_of ds ++ replicate m None) =
    sym (ap (meant others) outs) ∙ w.meaning ∙ ap (meant cs) slots in
    record {
      sent = w.value;
      alike = w.holds.alike;
      well_formed = w.holds.well_formed;
      recording = (m, subst (AllZip (λ (c : Cell) slot. IsRecordedAs colour c.sent slot) others) outs w.recorded);
      meaning = sym (meant_front others (outs_of ds) (replicate m None))
          ∙ ap (λ n. take n (meant others (outs_of ds ++ replicate m None))) long
          ∙ ap (take (length (slots_of ds))) all
          ∙ meant_front cs (slots_of ds) (replicate m None);
    }

-- so it is however a line is damaged within the limits
pub damaged_slots_mean_the_same : DamagedSlotsMeanTheSame
damaged_slots_mean_the_same colour lead ts slots outs well recording (new, left, runs) long =
    let d = decided colour fresh_memory new slots outs left long runs in
    subst (MeansTheSame colour lead ts slots) d.outs_are
    (subst (λ l. MeansTheSame colour lead ts l (outs_of d.all)) d.slots_are
    (of_decided colour lead ts d.all well
    (subst (IsDamagedRecordingOf colour (sent_list colour lead ts)) (sym d.slots_are) recording) d.places))
