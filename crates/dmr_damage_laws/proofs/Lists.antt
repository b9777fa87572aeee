-- Transmissions, and lists of them: what a line of them is written as is a recording of transmissions that mean the same.
use Rattle.std.proofs.Common.{◌≡◌, inl, inr, ℕ, zero, suc, ◌≤◌, Bool, true, false, List, [], ◌∷◌, ◌++◌, map, drop}
use Rattle.std.proofs.Common.{length, replicate, flat_map, Option, Some, None, refl, sym, ap, ◌∙◌, subst, arith, append_assoc}
use Rattle.std.proofs.Common.{if◌then◌else◌, is_some}
use Rattle.std.specs.List.{AllByRecursion, AllZip}
use Rattle.dmr_hearing.specs.Slots.{Silent, CutOff}
use Rattle.dmr_link.specs.declared.full_lc.FullLc.{FullLc}
use Rattle.dmr_voice.proofs.Lists.{all_cells}
use Rattle.dmr_voice.proofs.Superframes.{AllSix, InSixes, Quiet, all_placed, placed_cells, unbroken_rest}
use Rattle.dmr_voice.specs.CallMeaning.{Block, Cell, Control, Ending, Foreign, DataBurst, Absence, VoiceBurst, SyncBurst, Lead}
use Rattle.dmr_voice.specs.CallMeaning.{HeaderAgain, PiHeader, Present, Silenced, Superframe, Terminated, Transmission, VoiceCall}
use Rattle.dmr_voice.specs.CallMeaning.{HeadersAlone, LateCall, Controls, DataTry, ForeignParts, cells, data_cell, ending_cells}
use Rattle.dmr_voice.specs.CallMeaning.{foreign_cells, header_cell, lead_cell, superframe_cells, unsaid}
use Rattle.dmr_voice.specs.WellFormed.{BeginsWithData, EndsWell, IsPause, IsReadableSuperframe, IsTransmission, IsWellFormed}
use Rattle.dmr_voice.specs.WellFormed.{Unbroken, Within, presence}
use Rattle.dmr_voice.specs.declared.said.Role.{Role}
use Rattle.dmr_voice.specs.declared.said.Role.TheVariants.{Other}
use Rattle.dmr_damage_laws.proofs.Decided.{Decided}
use Rattle.dmr_damage_laws.proofs.Places.{Closes, IsReceivedAs, same_places, superframes}
use Rattle.dmr_damage_laws.proofs.Rewriting.{IsLine, IsPlain, IsRewritten, Rewrites, all_plain, no_fields, plain, plain_again}
use Rattle.dmr_damage_laws.proofs.Rewriting.{rewrites_as}
use Rattle.dmr_damage_laws.specs.SameTransmissions.{IsSamePlace, IsSameSuperframe, IsSameTransmission, superframes_of}
use Rattle.dmr_damage_laws.specs.SameTransmissions.{with_superframes}

-- 1. Slots that stay as they are.

data_plain : (kind : ℕ) (information : List Bool) (lc : Option FullLc) (role : Role) → IsPlain (data_cell kind information lc role)
data_plain kind information lc role = record { agrees = (role, refl); never = λ v k old new e. e }

silent_plain : IsPlain (unsaid Silent)
silent_plain = record { agrees = tt; never = λ v k old new e. e }

-- Silences that mean nothing are plain.
pub pause_plain : (n : ℕ) → AllByRecursion IsPlain (replicate n (unsaid Silent))
pause_plain n = plain_again n (unsaid Silent) silent_plain

gap_plain : (lc : FullLc) (header : List Bool) (gap : ℕ)
    → AllByRecursion IsPlain (replicate gap (record (header_cell lc header) { sent = Silent }))
gap_plain lc header gap =
    plain_again gap (record (header_cell lc header) { sent = Silent }) (record { agrees = tt; never = λ v k old new e. e })

leads_plain : (lc : FullLc) (header : List Bool) (leads : List Lead) → AllByRecursion IsPlain (map (lead_cell lc header) leads)
leads_plain lc header [] = tt
leads_plain lc header (HeaderAgain ∷ leads) = (data_plain _ header (Some lc) _, leads_plain lc header leads)
leads_plain lc header (PiHeader information ∷ leads) = (data_plain _ information None _, leads_plain lc header leads)

ending_plain : (lc : FullLc) (ending : Ending) → AllByRecursion IsPlain (ending_cells lc ending)
ending_plain lc Silenced = tt
ending_plain lc (Terminated information more) = plain_again (suc more) _ (data_plain _ information (Some lc) _)

tail_plain : (tail : List Bool) → AllByRecursion IsPlain (map (λ there. unsaid (if there then CutOff else Silent)) tail)
tail_plain [] = tt
tail_plain (true ∷ tail) = (record { agrees = refl; never = λ v k old new e. e }, tail_plain tail)
tail_plain (false ∷ tail) = (silent_plain, tail_plain tail)

controls_plain : (colour : ℕ) (bursts : List Control) → AllByRecursion IsPlain (cells colour (Controls bursts))
controls_plain colour [] = tt
controls_plain colour (d ∷ ds) = (data_plain d.kind d.information d.link_control _, controls_plain colour ds)

blocks_plain : (colour : ℕ) (header : List Bool) (blocks : List (Option Block))
    → AllByRecursion IsPlain (cells colour (DataTry [] header blocks))
blocks_plain colour header [] = (data_plain _ header None Other, tt)
blocks_plain colour header (None ∷ blocks) =
    let more = blocks_plain colour header blocks in (more.0, (silent_plain, more.1))
blocks_plain colour header (Some d ∷ blocks) =
    let more = blocks_plain colour header blocks in (more.0, (data_plain d.kind d.information None Other, more.1))

try_plain : (colour : ℕ) (csbks : List (List Bool)) (header : List Bool) (blocks : List (Option Block))
    → AllByRecursion IsPlain (cells colour (DataTry csbks header blocks))
try_plain colour [] header blocks = blocks_plain colour header blocks
try_plain colour (csbk ∷ csbks) header blocks = (data_plain _ csbk None Other, try_plain colour csbks header blocks)

part_plain : (part : Foreign) → AllByRecursion IsPlain (foreign_cells part)
part_plain DataBurst = (record { agrees = refl; never = λ v k old new e. e }, tt)
part_plain Absence = (silent_plain, tt)
part_plain (VoiceBurst emb) = (record { agrees = refl; never = λ v k old new e. e }, tt)
part_plain (SyncBurst silences emb) = (
  record { agrees = inl refl; never = λ v k old new e. e },
  all_plain (replicate silences (unsaid Silent)) _ (pause_plain silences)
      (record { agrees = refl; never = λ v k old new e. e }, tt),
)

parts_plain : (parts : List Foreign) → AllByRecursion IsPlain (flat_map foreign_cells parts)
parts_plain [] = tt
parts_plain (part ∷ parts) = all_plain (foreign_cells part) _ (part_plain part) (parts_plain parts)

-- 2. Transmissions with other superframes.

received_alike : (ss ts : List Superframe) → AllZip IsReceivedAs ss ts → AllZip IsSameSuperframe ss ts
received_alike [] [] p = tt
received_alike [] (t ∷ ts) p = absurd p
received_alike (s ∷ ss) [] p = absurd p
received_alike (s ∷ ss) (t ∷ ts) p = (p.0.same, received_alike ss ts p.1)

received_readable : (ss ts : List Superframe) → AllZip IsReceivedAs ss ts → AllByRecursion IsReadableSuperframe ts
received_readable [] [] p = tt
received_readable [] (t ∷ ts) p = absurd p
received_readable (s ∷ ss) [] p = absurd p
received_readable (s ∷ ss) (t ∷ ts) p = (p.0.readable, received_readable ss ts p.1)

there_alike : (xs ys : List (Option Present)) → AllZip IsSamePlace xs ys → map is_some ys ≡ map is_some xs
there_alike [] [] p = refl
there_alike [] (y ∷ ys) p = absurd p
there_alike (x ∷ xs) [] p = absurd p
there_alike (None ∷ xs) (None ∷ ys) p = ap (λ l. false ∷ l) (there_alike xs ys p.1)
there_alike (None ∷ xs) (Some y ∷ ys) p = absurd p.0
there_alike (Some x ∷ xs) (None ∷ ys) p = absurd p.0
there_alike (Some x ∷ xs) (Some y ∷ ys) p = ap (λ l. true ∷ l) (there_alike xs ys p.1)

presence_alike : (ss ts : List Superframe) → AllZip IsReceivedAs ss ts → presence ts ≡ presence ss
presence_alike [] [] p = refl
presence_alike [] (t ∷ ts) p = absurd p
presence_alike (s ∷ ss) [] p = absurd p
presence_alike (s ∷ ss) (t ∷ ts) p =
    ap (λ l. l ++ presence ts) (there_alike s.places t.places p.0.same.places)
    ∙ ap (λ l. map is_some s.places ++ l) (presence_alike ss ts p.1)

long_alike : (xs ys : List (Option Present)) → AllZip IsSamePlace xs ys → length ys ≡ length xs
long_alike [] [] p = refl
long_alike [] (y ∷ ys) p = absurd p
long_alike (x ∷ xs) [] p = absurd p
long_alike (x ∷ xs) (y ∷ ys) p = let more = long_alike xs ys p.1 in omega (arith, more)

six_alike : (ss ts : List Superframe) → AllZip IsReceivedAs ss ts → AllSix ss → AllSix ts
six_alike [] [] p a = tt
six_alike [] (t ∷ ts) p a = absurd p
six_alike (s ∷ ss) [] p a = absurd p
six_alike (s ∷ ss) (t ∷ ts) p a = (long_alike s.places t.places p.0.same.places ∙ a.0, six_alike ss ts p.1 a.1)

-- they end as well
ends_silenced : (ss ts : List Superframe) → AllZip IsReceivedAs ss ts → EndsWell ss Silenced → Unbroken (presence ts)
    → EndsWell ts Silenced
ends_silenced [] [] p w u = (tt, u)
ends_silenced [] (t ∷ ts) p w u = absurd p
ends_silenced (s ∷ ss) [] p w u = absurd p
ends_silenced (s ∷ []) (t ∷ []) p w u =
    let long = long_alike s.places t.places p.0.same.places in
    let few = w.0 in
    ((omega (arith, long, few.0), omega (arith, long, few.1)), u)
ends_silenced (s ∷ []) (t ∷ v ∷ ts) p w u = absurd p.1
ends_silenced (s ∷ r ∷ ss) (t ∷ []) p w u = absurd p.1
ends_silenced (s ∷ r ∷ ss) (t ∷ v ∷ ts) p w u =
    let more = ends_silenced (r ∷ ss) (v ∷ ts) p.1 (w.0.1, unbroken_rest s.places (presence (r ∷ ss)) w.1)
    (unbroken_rest t.places (presence (v ∷ ts)) u) in
    ((long_alike s.places t.places p.0.same.places ∙ w.0.0, more.0), u)

ends_alike : (ss ts : List Superframe) (ending : Ending) → AllZip IsReceivedAs ss ts → EndsWell ss ending → EndsWell ts ending
ends_alike ss ts (Terminated information more) p w =
    (six_alike ss ts p w.0, subst (λ l. Unbroken (l ++ true ∷ [])) (sym (presence_alike ss ts p)) w.1)
ends_alike ss ts Silenced p w = ends_silenced ss ts p w (subst Unbroken (sym (presence_alike ss ts p)) (unbroken ss w))
  where
    unbroken : (ss : List Superframe) → EndsWell ss Silenced → Unbroken (presence ss)
    unbroken ss w = w.1

all_in_sixes : (ss : List Superframe) → AllSix ss → InSixes ss
all_in_sixes [] a = tt
all_in_sixes (s ∷ []) a = let six = a.0 in (omega (arith, six), omega (arith, six))
all_in_sixes (s ∷ t ∷ ss) a = (a.0, all_in_sixes (t ∷ ss) a.1)

silenced_in_sixes : (ss : List Superframe) → EndsWell ss Silenced → InSixes ss
silenced_in_sixes [] w = tt
silenced_in_sixes (s ∷ []) w = w.0
silenced_in_sixes (s ∷ t ∷ ss) w =
    (w.0.0, silenced_in_sixes (t ∷ ss) (w.0.1, unbroken_rest s.places (presence (t ∷ ss)) w.1))

in_sixes : (ss : List Superframe) (ending : Ending) → EndsWell ss ending → InSixes ss
in_sixes ss (Terminated information more) w = all_in_sixes ss w.0
in_sixes ss Silenced w = silenced_in_sixes ss w

quiet_pause : (n : ℕ) (more : List Cell) → 6 ≤ n → Quiet (replicate n (unsaid Silent) ++ more)
quiet_pause zero more b = absurd (omega (arith, b))
quiet_pause (suc n) more b = tt

-- behind the superframes stand terminators, where each has six places, or silence
closes : (lc : FullLc) (ss : List Superframe) (ending : Ending) (n : ℕ) (rest : List Cell) → EndsWell ss ending
    → (ending ≡ Silenced → 6 ≤ n) → Closes ss ((ending_cells lc ending ++ replicate n (unsaid Silent)) ++ rest)
closes lc ss (Terminated information more) n rest w six = inl w.0
closes lc ss Silenced n rest w six = inr (silenced_in_sixes ss w, quiet_pause n rest (six refl))

-- 3. Lists of transmissions.

-- Transmissions that are well formed, and the same but for the fields of superframes.
pub record AreSent (colour : ℕ) (ts others : List (Transmission × ℕ)) : Type 0 where
  pub alike : AllZip IsSameTransmission ts others
  pub well_formed : IsWellFormed colour others
  pub begin : BeginsWithData ts → BeginsWithData others

-- What a line of these transmissions is written as.
abbrev pub ListRewrites : ℕ → List (Transmission × ℕ) → Type 0
ListRewrites colour ts =
    Rewrites (List (Transmission × ℕ)) (all_cells colour) (AreSent colour ts) colour no_fields (all_cells colour ts)

same_superframes : (ss : List Superframe) → AllZip IsSameSuperframe ss ss
same_superframes [] = tt
same_superframes (s ∷ ss) =
    (record { carries = refl; places = same_places s.places; first = refl; last = refl }, same_superframes ss)

-- A transmission without superframes stays as it is.
stays : (colour : ℕ) (t : Transmission) (n : ℕ) (ts : List (Transmission × ℕ)) → superframes_of t ≡ []
    → with_superframes (superframes_of t) t ≡ t
    → AllByRecursion IsPlain (cells colour t) → IsTransmission colour t
    → ((others : List (Transmission × ℕ)) → (BeginsWithData ts → BeginsWithData others) → IsPause t n others)
    → ((others : List (Transmission × ℕ)) → BeginsWithData ((t, n) ∷ ts) → BeginsWithData ((t, n) ∷ others))
    → ListRewrites colour ts → ListRewrites colour ((t, n) ∷ ts)
stays colour t n ts none same is_plain well pause begin rest =
    rewrites_as (all_cells colour) (AreSent colour ((t, n) ∷ ts)) (λ others. (t, n) ∷ others) (λ others h. refl)
    (λ others h. record {
      alike = (
        record { superframes = same_superframes (superframes_of t); transmission = sym same; silences = refl },
        h.alike,
      );
      well_formed = (well, pause others h.begin, h.well_formed);
      begin = begin others;
    })
    (plain (cells colour t ++ replicate n (unsaid Silent)) (all_plain (cells colour t) _ is_plain (pause_plain n)) rest)

assoc4 : (a b c d e f : List Cell) → (a ++ b) ++ (c ++ ((d ++ e) ++ f)) ≡ ((a ++ (b ++ (c ++ d))) ++ e) ++ f
assoc4 a b c d e f = simp append_assoc

assoc3 : (a c d e f : List Cell) → a ++ (c ++ ((d ++ e) ++ f)) ≡ ((a ++ (c ++ d)) ++ e) ++ f
assoc3 a c d e f = simp append_assoc

-- the slots in front of the places of a call
abbrev pub front_cells : FullLc → List Bool → List Lead → ℕ → List Cell
front_cells lc header leads gap =
    (header_cell lc header ∷ map (lead_cell lc header) leads) ++ replicate gap (record (header_cell lc header) { sent = Silent })

call_cells : (colour : ℕ) (lc : FullLc) (header : List Bool) (leads : List Lead) (gap : ℕ) (ss : List Superframe) (ending : Ending)
    (n : ℕ) (rest : List Cell) → InSixes ss
    → front_cells lc header leads gap
    ++ (placed_cells colour (Some lc) ss ++ ((ending_cells lc ending ++ replicate n (unsaid Silent)) ++ rest))
    ≡ (cells colour (VoiceCall lc header leads gap ss ending) ++ replicate n (unsaid Silent)) ++ rest
call_cells colour lc header leads gap ss ending n rest sixes =
    ap (λ places. front_cells lc header leads gap ++ (places ++ ((ending_cells lc ending ++ replicate n (unsaid Silent)) ++ rest)))
    (sym (all_placed colour (Some lc) ss sixes))
    ∙ assoc4 (header_cell lc header ∷ map (lead_cell lc header) leads)
    (replicate gap (record (header_cell lc header) { sent = Silent }))
    (superframe_cells colour (Some lc) ss) (ending_cells lc ending) (replicate n (unsaid Silent)) rest

late_cells : (colour : ℕ) (lc : FullLc) (tail : List Bool) (ss : List Superframe) (ending : Ending) (n : ℕ) (rest : List Cell)
    → InSixes ss
    → map (λ there. unsaid (if there then CutOff else Silent)) tail
    ++ (placed_cells colour None ss ++ ((ending_cells lc ending ++ replicate n (unsaid Silent)) ++ rest))
    ≡ (cells colour (LateCall lc tail ss ending) ++ replicate n (unsaid Silent)) ++ rest
late_cells colour lc tail ss ending n rest sixes =
    ap (λ places. map (λ there. unsaid (if there then CutOff else Silent)) tail
    ++ (places ++ ((ending_cells lc ending ++ replicate n (unsaid Silent)) ++ rest))) (sym (all_placed colour None ss sixes))
    ∙ assoc3 (map (λ there. unsaid (if there then CutOff else Silent)) tail)
    (superframe_cells colour None ss) (ending_cells lc ending) (replicate n (unsaid Silent)) rest

-- the superframes of a call with what stands behind it
with_end : (colour : ℕ) (call : Option FullLc) (lc : FullLc) (ss : List Superframe) (ending : Ending) (n : ℕ)
    (ts : List (Transmission × ℕ)) → AllByRecursion IsReadableSuperframe ss → EndsWell ss ending → (ending ≡ Silenced → 6 ≤ n)
    → ListRewrites colour ts
    → Rewrites (List Superframe × List (Transmission × ℕ))
    (λ x. placed_cells colour call x.0 ++ ((ending_cells lc ending ++ replicate n (unsaid Silent)) ++ all_cells colour x.1))
    (λ x. AllZip IsReceivedAs ss x.0 × AreSent colour ts x.1) colour no_fields
    (placed_cells colour call ss ++ ((ending_cells lc ending ++ replicate n (unsaid Silent)) ++ all_cells colour ts))
with_end colour call lc ss ending n ts readable ends six rest =
    superframes call ss (closes lc ss ending n (all_cells colour ts) ends six) readable
    (plain (ending_cells lc ending ++ replicate n (unsaid Silent))
    (all_plain (ending_cells lc ending) _ (ending_plain lc ending) (pause_plain n)) rest)

six_call : (lc : FullLc) (header : List Bool) (leads : List Lead) (gap : ℕ) (ss : List Superframe) (ending : Ending) (n : ℕ)
    (ts : List (Transmission × ℕ)) → IsPause (VoiceCall lc header leads gap ss ending) n ts → ending ≡ Silenced → 6 ≤ n
six_call lc header leads gap ss Silenced n ts p e = p
six_call lc header leads gap ss (Terminated i k) n ts p e = cc

six_late : (lc : FullLc) (tail : List Bool) (ss : List Superframe) (ending : Ending) (n : ℕ) (ts : List (Transmission × ℕ))
    → IsPause (LateCall lc tail ss ending) n ts → ending ≡ Silenced → 6 ≤ n
six_late lc tail ss Silenced n ts p e = p
six_late lc tail ss (Terminated i k) n ts p e = cc

pause_call : (lc : FullLc) (header : List Bool) (leads : List Lead) (gap : ℕ) (ss rs : List Superframe) (ending : Ending) (n : ℕ)
    (ts others : List (Transmission × ℕ)) → IsPause (VoiceCall lc header leads gap ss ending) n ts
    → IsPause (VoiceCall lc header leads gap rs ending) n others
pause_call lc header leads gap ss rs Silenced n ts others p = p
pause_call lc header leads gap ss rs (Terminated i k) n ts others p = p

pause_late : (lc : FullLc) (tail : List Bool) (ss rs : List Superframe) (ending : Ending) (n : ℕ)
    (ts others : List (Transmission × ℕ)) → IsPause (LateCall lc tail ss ending) n ts
    → IsPause (LateCall lc tail rs ending) n others
pause_late lc tail ss rs Silenced n ts others p = p
pause_late lc tail ss rs (Terminated i k) n ts others p = p

pause_headers : (lc : FullLc) (header : List Bool) (leads : List Lead) (ending : Ending) (n : ℕ)
    (ts others : List (Transmission × ℕ)) → IsPause (HeadersAlone lc header leads ending) n ts
    → (BeginsWithData ts → BeginsWithData others) → IsPause (HeadersAlone lc header leads ending) n others
pause_headers lc header leads Silenced n ts others (inl six) begin = inl six
pause_headers lc header leads Silenced n ts others (inr one) begin = inr (one.0, begin one.1)
pause_headers lc header leads (Terminated i k) n ts others p begin = p

call : (colour : ℕ) (lc : FullLc) (header : List Bool) (leads : List Lead) (gap : ℕ) (ss : List Superframe) (ending : Ending)
    (n : ℕ) (ts : List (Transmission × ℕ)) → IsTransmission colour (VoiceCall lc header leads gap ss ending)
    → IsPause (VoiceCall lc header leads gap ss ending) n ts → ListRewrites colour ts
    → ListRewrites colour ((VoiceCall lc header leads gap ss ending, n) ∷ ts)
call colour lc header leads gap ss ending n ts well pause rest =
    subst (Rewrites (List (Transmission × ℕ)) (all_cells colour)
    (AreSent colour ((VoiceCall lc header leads gap ss ending, n) ∷ ts)) colour no_fields)
    (call_cells colour lc header leads gap ss ending n (all_cells colour ts) (in_sixes ss ending well.3))
    (rewrites_as (all_cells colour) (AreSent colour ((VoiceCall lc header leads gap ss ending, n) ∷ ts))
    (λ x. (VoiceCall lc header leads gap x.0 ending, n) ∷ x.1)
    (λ x h. call_cells colour lc header leads gap x.0 ending n (all_cells colour x.1)
    (in_sixes x.0 ending (ends_alike ss x.0 ending h.0 well.3)))
    (λ x h. record {
      alike = (record { superframes = received_alike ss x.0 h.0; transmission = refl; silences = refl }, h.1.alike);
      well_formed = (
        (
          well.0,
          subst (Within 1) (sym (presence_alike ss x.0 h.0)) well.1,
          received_readable ss x.0 h.0,
          ends_alike ss x.0 ending h.0 well.3,
        ),
        pause_call lc header leads gap ss x.0 ending n ts x.1 pause,
        h.1.well_formed,
      );
      begin = λ b. b;
    })
    (plain (front_cells lc header leads gap)
    (all_plain (header_cell lc header ∷ map (lead_cell lc header) leads) _
    (data_plain _ header (Some lc) _, leads_plain lc header leads) (gap_plain lc header gap))
    (with_end colour (Some lc) lc ss ending n ts well.2 well.3 (six_call lc header leads gap ss ending n ts pause) rest)))

late : (colour : ℕ) (lc : FullLc) (tail : List Bool) (ss : List Superframe) (ending : Ending) (n : ℕ)
    (ts : List (Transmission × ℕ)) → IsTransmission colour (LateCall lc tail ss ending) → IsPause (LateCall lc tail ss ending) n ts
    → ListRewrites colour ts → ListRewrites colour ((LateCall lc tail ss ending, n) ∷ ts)
late colour lc tail ss ending n ts well pause rest =
    subst (Rewrites (List (Transmission × ℕ)) (all_cells colour) (AreSent colour ((LateCall lc tail ss ending, n) ∷ ts))
    colour no_fields)
    (late_cells colour lc tail ss ending n (all_cells colour ts) (in_sixes ss ending well.4))
    (rewrites_as (all_cells colour) (AreSent colour ((LateCall lc tail ss ending, n) ∷ ts))
    (λ x. (LateCall lc tail x.0 ending, n) ∷ x.1)
    (λ x h. late_cells colour lc tail x.0 ending n (all_cells colour x.1)
    (in_sixes x.0 ending (ends_alike ss x.0 ending h.0 well.4)))
    (λ x h. record {
      alike = (record { superframes = received_alike ss x.0 h.0; transmission = refl; silences = refl }, h.1.alike);
      well_formed = (
        (
          well.0,
          subst (Within 1) (sym (presence_alike ss x.0 h.0)) well.1,
          subst (λ l. Within 5 (drop 1 l)) (sym (presence_alike ss x.0 h.0)) well.2,
          received_readable ss x.0 h.0,
          ends_alike ss x.0 ending h.0 well.4,
        ),
        pause_late lc tail ss x.0 ending n ts x.1 pause,
        h.1.well_formed,
      );
      begin = λ b. b;
    })
    (plain (map (λ there. unsaid (if there then CutOff else Silent)) tail) (tail_plain tail)
    (with_end colour None lc ss ending n ts well.3 well.4 (six_late lc tail ss ending n ts pause) rest)))

one : (colour : ℕ) (t : Transmission) (n : ℕ) (ts : List (Transmission × ℕ)) → IsTransmission colour t → IsPause t n ts
    → ListRewrites colour ts → ListRewrites colour ((t, n) ∷ ts)
one colour (VoiceCall lc header leads gap ss ending) n ts well pause rest =
    call colour lc header leads gap ss ending n ts well pause rest
one colour (LateCall lc tail ss ending) n ts well pause rest = late colour lc tail ss ending n ts well pause rest
one colour (HeadersAlone lc header leads ending) n ts well pause rest =
    stays colour (HeadersAlone lc header leads ending) n ts refl refl (
      data_plain _ header (Some lc) _,
      all_plain (map (lead_cell lc header) leads) _ (leads_plain lc header leads)
          (ending_plain lc ending),
    ) well
    (λ others begin. pause_headers lc header leads ending n ts others pause begin) (λ others b. b) rest
one colour (Controls bursts) n ts well pause rest =
    stays colour (Controls bursts) n ts refl refl (controls_plain colour bursts) well (λ others begin. pause) (λ others b. b) rest
one colour (DataTry csbks header blocks) n ts well pause rest =
    stays colour (DataTry csbks header blocks) n ts refl refl (try_plain colour csbks header blocks) well (λ others begin. pause)
    (λ others b. b) rest
one colour (ForeignParts parts) n ts well pause rest =
    stays colour (ForeignParts parts) n ts refl refl (parts_plain parts) well (λ others begin. pause) (λ others b. b) rest

nothing_by : (colour : ℕ) (ds : List Decided) → IsLine colour no_fields [] ds
    → IsRewritten (List (Transmission × ℕ)) (all_cells colour) (AreSent colour []) colour [] ds
nothing_by colour [] line =
    record { value = []; holds = record { alike = tt; well_formed = tt; begin = λ b. b }; recorded = tt; meaning = refl }
nothing_by colour (d ∷ ds) line = absurd line.due

-- whatever well-formed transmissions a line has, what it is written as is a recording of such that mean the same
pub every : (colour : ℕ) (ts : List (Transmission × ℕ)) → IsWellFormed colour ts → ListRewrites colour ts
every colour [] well = record { by = λ ds line. nothing_by colour ds line }
every colour ((t, n) ∷ ts) well = one colour t n ts well.0 well.1 (every colour ts well.2)
