-- A line shows one fault at most.
use Rattle.std.proofs.Common.{◌≡◌, ℕ, ◌<◌, ◌^◌, inl, inr, List, [], ◌∷◌, length, get_or, Option, None}
use Rattle.std.proofs.Common.{refl, sym, ap, ◌∙◌, subst, arith}
use Rattle.std.specs.Prelude.{codes, decimal, ◌≢◌}
use Rattle.dmr_recording.specs.declared.recording.Recording.{Recording}
use Rattle.dmr_record.specs.Outgoing.{last_frame}
use Rattle.dmr_record.specs.Received.{Follows, ReceivedFields, last_fields}
use Rattle.dmr_record.specs.declared.received.ReceivedKind.{ReceivedKind}
use Rattle.dmr_words.specs.Lines.{TextState, last_number, line_length}
use Rattle.dmr_text.specs.Files.{File, Receipts, Sendings, Slots}
use Rattle.dmr_text.specs.Spelling.{frames_words, kind_word}
use Rattle.dmr_text.specs.Telling.{ShowsBreak, ShowsLineFault}
use Rattle.dmr_text.specs.TextFaults.{BeginsWith, HasPlace, HasSource, IsNoKind, ShowsReceiptLineFault}
use Rattle.dmr_text.specs.TextFaults.{ShowsSendingLineFault, ShowsSlotLineFault, order_fields, slot_number}
use Rattle.dmr_text.specs.declared.fault.TextFault.{TextFault}
use Rattle.dmr_text.specs.declared.fault.TextFault.TheVariants as fault
use Rattle.dmr_text.proofs.Apart.{IsSame, IsSameSource, frames_no_number, frames_no_records, one, places_same, records_no_number}
use Rattle.dmr_text.proofs.Apart.{slot_few}

-- The order in which the faults of a line are looked for.
abbrev rank : TextFault → ℕ
rank fault.NoFirstLine = 0
rank fault.LineBehindLast = 1
rank fault.NoLastLine = 2
rank fault.WrongNumber = 3
rank fault.TooLong = 4
rank fault.PlacesDontGrow = 5
rank fault.WrongMode = 6
rank fault.WrongKind = 7
rank fault.WrongBurst = 8
rank fault.WrongOctets = 9
rank fault.Read = 10

abbrev in_order : List TextFault
in_order = fault.NoFirstLine ∷ fault.LineBehindLast ∷ fault.NoLastLine ∷ fault.WrongNumber ∷ fault.TooLong ∷ fault.PlacesDontGrow
    ∷ fault.WrongMode ∷ fault.WrongKind ∷ fault.WrongBurst ∷ fault.WrongOctets ∷ fault.Read ∷ []

-- no two faults have one rank
ranked : (e : TextFault) → get_or in_order (rank e) fault.Read ≡ e
ranked fault.NoFirstLine = refl
ranked fault.LineBehindLast = refl
ranked fault.NoLastLine = refl
ranked fault.WrongNumber = refl
ranked fault.TooLong = refl
ranked fault.PlacesDontGrow = refl
ranked fault.WrongMode = refl
ranked fault.WrongKind = refl
ranked fault.WrongBurst = refl
ranked fault.WrongOctets = refl
ranked fault.Read = refl

-- so two of which neither comes first are one
same_fault : (e f : TextFault) → (rank e < rank f → ⊥) → (rank f < rank e → ⊥) → e ≡ f
same_fault e f first second =
    let same : rank e ≡ rank f = omega (arith, first, second) in
    sym (ranked e) ∙ ap (λ (n : ℕ). get_or in_order n fault.Read) same ∙ ranked f

-- a line with a place is no last line
place_no_frames : (words rest : List (List ℕ)) (frame slot : ℕ) → BeginsWith (codes "frames") words
    → HasPlace words frame slot rest → ⊥
place_no_frames words rest frame slot (other, e) has =
    let line = has.line in
    let same : codes "frames" ≡ decimal frame = cc (line, e) in
    frames_no_number frame same

place_no_records : (words rest : List (List ℕ)) (frame slot : ℕ) → BeginsWith (codes "records") words
    → HasPlace words frame slot rest → ⊥
place_no_records words rest frame slot (other, e) has =
    let line = has.line in
    let same : codes "records" ≡ decimal frame = cc (line, e) in
    records_no_number frame same

-- and it has one place
one_place : (words rest rest' : List (List ℕ)) (frame slot frame' slot' : ℕ) → HasPlace words frame slot rest
    → HasPlace words frame' slot' rest' → IsSame frame slot frame' slot' rest rest'
one_place words rest rest' frame slot frame' slot' has has' =
    places_same words rest rest' frame slot frame' slot' has has'.line has'.few (slot_few slot' has'.one)

one_number : (words rest rest' : List (List ℕ)) (frame slot frame' slot' : ℕ) → HasPlace words frame slot rest
    → HasPlace words frame' slot' rest' → slot_number frame slot ≡ slot_number frame' slot'
one_number words rest rest' frame slot frame' slot' has has' =
    let same = one_place words rest rest' frame slot frame' slot' has has' in
    let of_frame = same.of_frame in
    let of_slot = same.of_slot in
    cc

one_count : (words : List (List ℕ)) (m n : ℕ) → m < 2 ^ 32 → n < 2 ^ 32 → words ≡ frames_words m → words ≡ frames_words n
    → m ≡ n
one_count words m n few few' e e' = let same : decimal m ≡ decimal n = cc (e, e') in one m n few few' same

-- of two faults of a line of a recording the second one isn't shown where the first one is
slots_first : (of : Recording) (count : ℕ) (words : List (List ℕ)) (e f : TextFault) → rank e < rank f
    → ShowsSlotLineFault of count e words → ShowsSlotLineFault of count f words → ⊥
slots_first of count words fault.NoFirstLine f less shown other = shown
slots_first of count words fault.LineBehindLast f less shown other = shown
slots_first of count words fault.WrongMode f less shown other = shown
slots_first of count words fault.WrongKind f less shown other = shown
slots_first of count words fault.WrongOctets f less shown other = shown
slots_first of count words fault.Read f less shown other = shown
slots_first of count words e fault.NoFirstLine less shown other = other
slots_first of count words e fault.LineBehindLast less shown other = other
slots_first of count words e fault.WrongMode less shown other = other
slots_first of count words e fault.WrongKind less shown other = other
slots_first of count words e fault.WrongOctets less shown other = other
slots_first of count words e fault.Read less shown other = other
slots_first of count words fault.NoLastLine fault.WrongNumber less shown (inl (frames, none)) = frames_no_records words frames shown
slots_first of count words fault.NoLastLine fault.WrongNumber less shown (inr (inl (n, fits, e, few))) =
    frames_no_records words (_, e) shown
slots_first of count words fault.NoLastLine fault.WrongNumber less shown (inr (inr (record_line, none))) = record_line.records shown
slots_first of count words fault.NoLastLine fault.TooLong less shown (inl (n, fits, e, few, many)) =
    frames_no_records words (_, e) shown
slots_first of count words fault.NoLastLine fault.TooLong less shown (inr (frame, slot, rest, has, past)) =
    place_no_records words rest frame slot shown has
slots_first of count words fault.NoLastLine fault.PlacesDontGrow less shown (frame, slot, rest, has, within, before) =
    place_no_records words rest frame slot shown has
slots_first of count words fault.NoLastLine fault.WrongBurst less shown (frame, slot, rest, has, within, later, none) =
    place_no_records words rest frame slot shown has
slots_first of count words fault.WrongNumber fault.TooLong less (inl (frames, none)) (inl (n, fits, e, few, many)) = none n fits e
slots_first of count words fault.WrongNumber fault.TooLong less (inl (frames, none)) (inr (frame, slot, rest, has, past)) =
    place_no_frames words rest frame slot frames has
slots_first of count words fault.WrongNumber fault.TooLong less (inr (inl (m, fits, e, few))) (inl (n, fits', e', few', many)) =
    let same = one_count words m n fits fits' e e' in
    omega (arith, same, few, few')
slots_first of count words fault.WrongNumber fault.TooLong less (inr (inl (m, fits, e, few))) (inr (frame, slot, rest, has, past)) =
    place_no_frames words rest frame slot (_, e) has
slots_first of count words fault.WrongNumber fault.TooLong less (inr (inr (record_line, none))) (inl (n, fits, e, few, many)) =
    record_line.frames (_, e)
slots_first of count words fault.WrongNumber fault.TooLong less (inr (inr (record_line, none)))
    (inr (frame, slot, rest, has, past)) = none frame slot rest has
slots_first of count words fault.WrongNumber fault.PlacesDontGrow less (inl (frames, none))
    (frame, slot, rest, has, within, before) = place_no_frames words rest frame slot frames has
slots_first of count words fault.WrongNumber fault.PlacesDontGrow less (inr (inl (m, fits, e, few)))
    (frame, slot, rest, has, within, before) = place_no_frames words rest frame slot (_, e) has
slots_first of count words fault.WrongNumber fault.PlacesDontGrow less (inr (inr (record_line, none)))
    (frame, slot, rest, has, within, before) = none frame slot rest has
slots_first of count words fault.WrongNumber fault.WrongBurst less (inl (frames, none))
    (frame, slot, rest, has, within, later, bad) = place_no_frames words rest frame slot frames has
slots_first of count words fault.WrongNumber fault.WrongBurst less (inr (inl (m, fits, e, few)))
    (frame, slot, rest, has, within, later, bad) = place_no_frames words rest frame slot (_, e) has
slots_first of count words fault.WrongNumber fault.WrongBurst less (inr (inr (record_line, none)))
    (frame, slot, rest, has, within, later, bad) = none frame slot rest has
slots_first of count words fault.TooLong fault.PlacesDontGrow less (inl (n, fits, e, few, many))
    (frame, slot, rest, has, within, before) = place_no_frames words rest frame slot (_, e) has
slots_first of count words fault.TooLong fault.PlacesDontGrow less (inr (frame, slot, rest, has, past))
    (frame', slot', rest', has', within, before) =
    let same = one_number words rest rest' frame slot frame' slot' has has' in
    omega (arith, same, past, within)
slots_first of count words fault.TooLong fault.WrongBurst less (inl (n, fits, e, few, many))
    (frame, slot, rest, has, within, later, bad) = place_no_frames words rest frame slot (_, e) has
slots_first of count words fault.TooLong fault.WrongBurst less (inr (frame, slot, rest, has, past))
    (frame', slot', rest', has', within, later, bad) =
    let same = one_number words rest rest' frame slot frame' slot' has has' in
    omega (arith, same, past, within)
slots_first of count words fault.PlacesDontGrow fault.WrongBurst less (frame, slot, rest, has, within, before)
    (frame', slot', rest', has', within', later, bad) =
    let same = one_number words rest rest' frame slot frame' slot' has has' in
    omega (arith, same, before, later)
slots_first of count words e f less shown other = omega (arith, less)

-- the same of an outgoing list
sendings_first : (count last : ℕ) (words : List (List ℕ)) (e f : TextFault) → rank e < rank f
    → ShowsSendingLineFault count last e words → ShowsSendingLineFault count last f words → ⊥
sendings_first count last words fault.NoFirstLine f less shown other = shown
sendings_first count last words fault.LineBehindLast f less shown other = shown
sendings_first count last words fault.WrongKind f less shown other = shown
sendings_first count last words fault.WrongBurst f less shown other = shown
sendings_first count last words fault.Read f less shown other = shown
sendings_first count last words e fault.NoFirstLine less shown other = other
sendings_first count last words e fault.LineBehindLast less shown other = other
sendings_first count last words e fault.WrongKind less shown other = other
sendings_first count last words e fault.WrongBurst less shown other = other
sendings_first count last words e fault.Read less shown other = other
sendings_first count last words fault.NoLastLine fault.WrongNumber less shown (inl (records, none)) =
    frames_no_records words shown records
sendings_first count last words fault.NoLastLine fault.WrongNumber less shown (inr (record_line, none)) = record_line.frames shown
sendings_first count last words fault.NoLastLine fault.TooLong less shown (frame, slot, rest, has, past) =
    place_no_frames words rest frame slot shown has
sendings_first count last words fault.NoLastLine fault.PlacesDontGrow less shown (frame, slot, rest, has, within, before) =
    place_no_frames words rest frame slot shown has
sendings_first count last words fault.NoLastLine fault.WrongMode less shown (frame, slot, rest, has, within, later, bad) =
    place_no_frames words rest frame slot shown has
sendings_first count last words fault.NoLastLine fault.WrongOctets less shown
    (frame, slot, confirmed, full, rest, has, within, later, bad) = place_no_frames words _ frame slot shown has
sendings_first count last words fault.WrongNumber fault.TooLong less (inl (records, none)) (frame, slot, rest, has, past) =
    place_no_records words rest frame slot records has
sendings_first count last words fault.WrongNumber fault.TooLong less (inr (record_line, none)) (frame, slot, rest, has, past) =
    none frame slot rest has
sendings_first count last words fault.WrongNumber fault.PlacesDontGrow less (inl (records, none))
    (frame, slot, rest, has, within, before) = place_no_records words rest frame slot records has
sendings_first count last words fault.WrongNumber fault.PlacesDontGrow less (inr (record_line, none))
    (frame, slot, rest, has, within, before) = none frame slot rest has
sendings_first count last words fault.WrongNumber fault.WrongMode less (inl (records, none))
    (frame, slot, rest, has, within, later, bad) = place_no_records words rest frame slot records has
sendings_first count last words fault.WrongNumber fault.WrongMode less (inr (record_line, none))
    (frame, slot, rest, has, within, later, bad) = none frame slot rest has
sendings_first count last words fault.WrongNumber fault.WrongOctets less (inl (records, none))
    (frame, slot, confirmed, full, rest, has, within, later, bad) = place_no_records words _ frame slot records has
sendings_first count last words fault.WrongNumber fault.WrongOctets less (inr (record_line, none))
    (frame, slot, confirmed, full, rest, has, within, later, bad) = none frame slot _ has
sendings_first count last words fault.TooLong fault.PlacesDontGrow less (frame, slot, rest, has, past)
    (frame', slot', rest', has', within, before) = omega (arith, past, within)
sendings_first count last words fault.TooLong fault.WrongMode less (frame, slot, rest, has, past)
    (frame', slot', rest', has', within, later, bad) = omega (arith, past, within)
sendings_first count last words fault.TooLong fault.WrongOctets less (frame, slot, rest, has, past)
    (frame', slot', confirmed, full, rest', has', within, later, bad) = omega (arith, past, within)
sendings_first count last words fault.PlacesDontGrow fault.WrongMode less (frame, slot, rest, has, within, before)
    (frame', slot', rest', has', within', later, bad) =
    let same = (one_place words rest rest' frame slot frame' slot' has has').of_frame in
    omega (arith, same, before, later)
sendings_first count last words fault.PlacesDontGrow fault.WrongOctets less (frame, slot, rest, has, within, before)
    (frame', slot', confirmed, full, rest', has', within', later, bad) =
    let same = (one_place words rest _ frame slot frame' slot' has has').of_frame in
    omega (arith, same, before, later)
sendings_first count last words fault.WrongMode fault.WrongOctets less (frame, slot, rest, has, within, later, none)
    (frame', slot', confirmed, full, rest', has', within', later', bad) =
    none confirmed full rest' (one_place words rest _ frame slot frame' slot' has has').of_rest
sendings_first count last words e f less shown other = omega (arith, less)

-- a line with a source is no last line
source_no_frames : (words rest : List (List ℕ)) (frame slot : ℕ) (kind : List ℕ) (source : ℕ) → BeginsWith (codes "frames") words
    → HasSource words frame slot kind source rest → ⊥
source_no_frames words rest frame slot kind source (other, e) has =
    let line = has.line in
    let same : codes "frames" ≡ decimal frame = cc (line, e) in
    frames_no_number frame same

source_no_records : (words rest : List (List ℕ)) (frame slot : ℕ) (kind : List ℕ) (source : ℕ)
    → BeginsWith (codes "records") words → HasSource words frame slot kind source rest → ⊥
source_no_records words rest frame slot kind source (other, e) has =
    let line = has.line in
    let same : codes "records" ≡ decimal frame = cc (line, e) in
    records_no_number frame same

-- and it has one place and one kind
one_source : (words rest rest' : List (List ℕ)) (frame slot : ℕ) (kind : List ℕ) (source frame' slot' : ℕ) (kind' : List ℕ)
    (source' : ℕ) → HasSource words frame slot kind source rest → HasSource words frame' slot' kind' source' rest'
    → IsSameSource frame slot kind frame' slot' kind' rest rest'
one_source words rest rest' frame slot kind source frame' slot' kind' source' has has' =
    let line = has.line in
    let line' = has'.line in
    let frames : decimal frame ≡ decimal frame' = cc (line, line') in
    let slots : decimal slot ≡ decimal slot' = cc (line, line') in
    let kinds : kind ≡ kind' = cc (line, line') in
    let behind : rest ≡ rest' = cc (line, line') in
    record {
      of_frame = one frame frame' has.few has'.few frames;
      of_slot = one slot slot' (slot_few slot has.one) (slot_few slot' has'.one) slots;
      of_kind = kinds;
      of_rest = behind;
    }

-- a kind that may follow in one place may follow in the same place
may_follow_there : (last : Option ReceivedFields) (frame slot frame' slot' : ℕ) (kind : ReceivedKind) → frame ≡ frame'
    → slot ≡ slot' → Follows last (order_fields frame' slot' kind) → Follows last (order_fields frame slot kind)
may_follow_there last frame slot frame' slot' kind f s follows =
    subst (λ (n : ℕ). Follows last (order_fields n slot kind)) (sym f)
    (subst (λ (n : ℕ). Follows last (order_fields frame' n kind)) (sym s) follows)

-- the same of a received list
receipts_first : (count : ℕ) (last : Option ReceivedFields) (words : List (List ℕ)) (e f : TextFault) → rank e < rank f
    → ShowsReceiptLineFault count last e words → ShowsReceiptLineFault count last f words → ⊥
receipts_first count last words fault.NoFirstLine f less shown other = shown
receipts_first count last words fault.LineBehindLast f less shown other = shown
receipts_first count last words fault.WrongMode f less shown other = shown
receipts_first count last words fault.WrongBurst f less shown other = shown
receipts_first count last words fault.Read f less shown other = shown
receipts_first count last words e fault.NoFirstLine less shown other = other
receipts_first count last words e fault.LineBehindLast less shown other = other
receipts_first count last words e fault.WrongMode less shown other = other
receipts_first count last words e fault.WrongBurst less shown other = other
receipts_first count last words e fault.Read less shown other = other
receipts_first count last words fault.NoLastLine fault.WrongNumber less shown (inl (records, none)) =
    frames_no_records words shown records
receipts_first count last words fault.NoLastLine fault.WrongNumber less shown (inr (record_line, none)) = record_line.frames shown
receipts_first count last words fault.NoLastLine fault.TooLong less shown (frame, slot, kind, source, rest, has, past) =
    source_no_frames words rest frame slot kind source shown has
receipts_first count last words fault.NoLastLine fault.PlacesDontGrow less shown
    (frame, slot, kind, source, rest, has, within, before) = source_no_frames words rest frame slot kind source shown has
receipts_first count last words fault.NoLastLine fault.WrongKind less shown
    (frame, slot, kind, source, rest, has, within, some, bad) = source_no_frames words rest frame slot kind source shown has
receipts_first count last words fault.NoLastLine fault.WrongOctets less shown
    (frame, slot, kind, source, rest, has, within, order, bad) =
    source_no_frames words rest frame slot (kind_word kind) source shown has
receipts_first count last words fault.WrongNumber fault.TooLong less (inl (records, none))
    (frame, slot, kind, source, rest, has, past) = source_no_records words rest frame slot kind source records has
receipts_first count last words fault.WrongNumber fault.TooLong less (inr (record_line, none))
    (frame, slot, kind, source, rest, has, past) = none frame slot kind source rest has
receipts_first count last words fault.WrongNumber fault.PlacesDontGrow less (inl (records, none))
    (frame, slot, kind, source, rest, has, within, before) = source_no_records words rest frame slot kind source records has
receipts_first count last words fault.WrongNumber fault.PlacesDontGrow less (inr (record_line, none))
    (frame, slot, kind, source, rest, has, within, before) = none frame slot kind source rest has
receipts_first count last words fault.WrongNumber fault.WrongKind less (inl (records, none))
    (frame, slot, kind, source, rest, has, within, some, bad) = source_no_records words rest frame slot kind source records has
receipts_first count last words fault.WrongNumber fault.WrongKind less (inr (record_line, none))
    (frame, slot, kind, source, rest, has, within, some, bad) = none frame slot kind source rest has
receipts_first count last words fault.WrongNumber fault.WrongOctets less (inl (records, none))
    (frame, slot, kind, source, rest, has, within, order, bad) =
    source_no_records words rest frame slot (kind_word kind) source records has
receipts_first count last words fault.WrongNumber fault.WrongOctets less (inr (record_line, none))
    (frame, slot, kind, source, rest, has, within, order, bad) = none frame slot (kind_word kind) source rest has
receipts_first count last words fault.TooLong fault.PlacesDontGrow less (frame, slot, kind, source, rest, has, past)
    (frame', slot', kind', source', rest', has', within, before) = omega (arith, past, within)
receipts_first count last words fault.TooLong fault.WrongKind less (frame, slot, kind, source, rest, has, past)
    (frame', slot', kind', source', rest', has', within, some, bad) = omega (arith, past, within)
receipts_first count last words fault.TooLong fault.WrongOctets less (frame, slot, kind, source, rest, has, past)
    (frame', slot', kind', source', rest', has', within, order, bad) = omega (arith, past, within)
receipts_first count last words fault.PlacesDontGrow fault.WrongKind less (frame, slot, kind, source, rest, has, within, never)
    (frame', slot', kind', source', rest', has', within', (k, follows), bad) =
    let same = one_source words rest rest' frame slot kind source frame' slot' kind' source' has has' in
    let none : IsNoKind kind = subst IsNoKind (sym same.of_kind) bad in
    never k (inr none) (may_follow_there last frame slot frame' slot' k same.of_frame same.of_slot follows)
receipts_first count last words fault.PlacesDontGrow fault.WrongOctets less (frame, slot, kind, source, rest, has, within, never)
    (frame', slot', k, source', rest', has', within', follows, bad) =
    let same = one_source words rest rest' frame slot kind source frame' slot' (kind_word k) source' has has' in
    never k (inl same.of_kind) (may_follow_there last frame slot frame' slot' k same.of_frame same.of_slot follows)
receipts_first count last words fault.WrongKind fault.WrongOctets less (frame, slot, kind, source, rest, has, within, some, none)
    (frame', slot', k, source', rest', has', within', order, bad) =
    none k (one_source words rest rest' frame slot kind source frame' slot' (kind_word k) source' has has').of_kind
receipts_first count last words e f less shown other = omega (arith, less)

-- words that show two faults of a line show one
pub line_one : (file : File) (e f : TextFault) (words : List (List ℕ)) → ShowsLineFault file e words → ShowsLineFault file f words
    → e ≡ f
line_one (Slots of slots) e f words shown other =
    same_fault e f (λ less. slots_first of (length slots) words e f less shown other)
    (λ less. slots_first of (length slots) words f e less other shown)
line_one (Sendings sendings) e f words shown other =
    same_fault e f (λ less. sendings_first (length sendings) (last_frame 0 sendings) words e f less shown other)
    (λ less. sendings_first (length sendings) (last_frame 0 sendings) words f e less other shown)
line_one (Receipts receipts) e f words shown other =
    same_fault e f (λ less. receipts_first (length receipts) (last_fields None receipts) words e f less shown other)
    (λ less. receipts_first (length receipts) (last_fields None receipts) words f e less other shown)

-- what stands behind the lines that were told is at its end, or is too long
pub break_one : (at_end e f : TextFault) (state : TextState) → (state.number ≡ last_number → ⊥) → ShowsBreak at_end e state
    → ShowsBreak at_end f state → e ≢ fault.Read → f ≢ fault.Read → e ≡ f
break_one at_end e f state few (inl (is, end)) (inl (is', end')) text text' = is ∙ sym is'
break_one at_end e f state few (inl (is, end)) (inr (inl (is', inl long))) text text' =
    let none = ap line_length end.none in
    absurd (omega (arith, long, none))
break_one at_end e f state few (inl (is, end)) (inr (inl (is', inr last))) text text' = absurd (few last)
break_one at_end e f state few (inr (inl (is, inl long))) (inl (is', end)) text text' =
    let none = ap line_length end.none in
    absurd (omega (arith, long, none))
break_one at_end e f state few (inr (inl (is, inr last))) (inl (is', end)) text text' = absurd (few last)
break_one at_end e f state few (inr (inl (is, long))) (inr (inl (is', long'))) text text' = is ∙ sym is'
break_one at_end e f state few (inr (inr (is, cut))) other text text' = absurd (text is)
break_one at_end e f state few shown (inr (inr (is, cut))) text text' = absurd (text' is)
