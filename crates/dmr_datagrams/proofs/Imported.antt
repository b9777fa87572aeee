-- The outgoing list of a capture goes on, packet by packet.
use Rattle.std.proofs.Common.{◌≡◌, ◌≤◌, ℕ, List, [], ◌∷◌, ◌++◌, length, Option, None, Some, refl, sym, ap, ◌∙◌, subst}
use Rattle.std.proofs.Common.{append-nil, append_assoc, arith}
use Rattle.std.proofs.ByRecursion.{All-append}
use Rattle.std.proofs.Math.Nat.{le-max_right}
use Rattle.std.proofs.lemmas.List.{length-append}
use Rattle.std.proofs.lemmas.List.Concat.{flat_map-append}
use Rattle.std.specs.Io.KnownBytes.{Appends, Consumes}
use Rattle.std.specs.List.{AllByRecursion}
use Rattle.std.proofs.KnownBytes.{Appends-trans}
use Rattle.dmr_record.specs.Devices.{Tears}
use Rattle.dmr_record.proofs.Torn.{Tears_after}
use Rattle.dmr_record.specs.Head.{head_octets, outgoing_magic, record_limit}
use Rattle.dmr_record.specs.Outgoing.{AreInFrameOrder, IsSending, Sending, last_frame, outgoing_file, sending_octets}
use Rattle.dmr_record.specs.Outgoing.{sendings_octets}
use Rattle.dmr_capture.proofs.ReadTo.{read_to_more, read_to_none}
use Rattle.dmr_capture.specs.Reading.{AreRead, BeginsCapture}
use Rattle.dmr_capture.specs.State.{CaptureState, CapturedPacket}
use Rattle.dmr_datagrams.specs.Imports.{AreImported, AreSendings, IsListTorn}
use Rattle.dmr_datagrams.specs.Sendings.{imported, next_frame, no_progress, progress_behind, progress_of, progress_of_found}
use Rattle.dmr_datagrams.specs.Sendings.{sendings_from, sendings_of, sendings_of_found, to_radios}
use Rattle.dmr_datagrams.specs.declared.progress.ImportSettings.{ImportSettings}
use Rattle.dmr_datagrams.specs.declared.progress.ListedSoFar.{ListedSoFar}

-- the records of a packet more stand behind those before
pub sendings_more : (settings : ImportSettings) (p : ListedSoFar) (packets : List CapturedPacket) (next : CapturedPacket)
    → sendings_from settings p (packets ++ next ∷ [])
    ≡ sendings_from settings p packets ++ sendings_of settings (progress_behind settings p packets) next
sendings_more settings p [] next = append-nil (sendings_of settings p next)
sendings_more settings p (packet ∷ packets) next =
    ap (λ l. sendings_of settings p packet ++ l) (sendings_more settings (progress_of settings p packet) packets next)
    ∙ sym (append_assoc (sendings_of settings p packet) (sendings_from settings (progress_of settings p packet) packets)
    (sendings_of settings (progress_behind settings (progress_of settings p packet) packets) next))

-- and so does the progress
pub progress_more : (settings : ImportSettings) (p : ListedSoFar) (packets : List CapturedPacket) (next : CapturedPacket)
    → progress_behind settings p (packets ++ next ∷ []) ≡ progress_of settings (progress_behind settings p packets) next
progress_more settings p [] next = refl
progress_more settings p (packet ∷ packets) next = progress_more settings (progress_of settings p packet) packets next

-- How far a list has got tells of its records: how many there are, and the frame of the last.
pub record Tells (p : ListedSoFar) (sendings : List Sending) : Type 0 where
  pub records : p.records ≡ length sendings
  pub last : last_frame 0 sendings ≡ p.last

last_pushed : (last : ℕ) (sendings : List Sending) (next : Sending) → last_frame last (sendings ++ next ∷ []) ≡ next.frame
last_pushed last [] next = refl
last_pushed last (s ∷ rest) next = last_pushed s.frame rest next

order_pushed : (last : ℕ) (sendings : List Sending) (next : Sending) → AreInFrameOrder last sendings
    → last_frame last sendings ≤ next.frame → AreInFrameOrder last (sendings ++ next ∷ [])
order_pushed last [] next order later = (later, tt)
order_pushed last (s ∷ rest) next (first, order) later = (first, order_pushed s.frame rest next order later)

tells_found : (settings : ImportSettings) (p : ListedSoFar) (time : ℕ) (found : Option (List ℕ)) (sendings : List Sending)
    → Tells p sendings → Tells (progress_of_found settings p time found) (sendings ++ sendings_of_found settings p time found)
tells_found settings p time None sendings tells = rw (append-nil sendings) tells
tells_found settings p time (Some datagram) sendings tells =
    let next : Sending = record {
      frame = next_frame settings p time;
      slot = settings.slot;
      confirmed = settings.confirmed;
      full = settings.full;
      datagram = datagram;
    } in
    record {
      records = let e = tells.records in omega (arith, e, length-append sendings (next ∷ []));
      last = last_pushed 0 sendings next;
    }

order_found : (settings : ImportSettings) (p : ListedSoFar) (time : ℕ) (found : Option (List ℕ)) (sendings : List Sending)
    → Tells p sendings → AreInFrameOrder 0 sendings → AreInFrameOrder 0 (sendings ++ sendings_of_found settings p time found)
order_found settings p time None sendings tells order = rw (append-nil sendings) order
order_found settings p time (Some datagram) sendings tells order =
    order_pushed 0 sendings _ order (rw tells.last (le-max_right _ p.last))

-- a packet more
pub tells_more : (settings : ImportSettings) (packets : List CapturedPacket) (next : CapturedPacket)
    → Tells (progress_behind settings no_progress packets) (imported settings packets)
    → Tells (progress_behind settings no_progress (packets ++ next ∷ [])) (imported settings (packets ++ next ∷ []))
tells_more settings packets next tells =
    let p = progress_behind settings no_progress packets in
    rw (progress_more settings no_progress packets next, sendings_more settings no_progress packets next)
    (tells_found settings p next.time (to_radios next.link next.octets) (imported settings packets) tells)

-- the list of a packet more
file_more : (sendings more : List Sending) → outgoing_file (sendings ++ more) ≡ outgoing_file sendings ++ sendings_octets more
file_more sendings more =
    ap (λ l. head_octets outgoing_magic ++ l) (flat_map-append sending_octets sendings more)
    ∙ sym (append_assoc (head_octets outgoing_magic) (sendings_octets sendings) (sendings_octets more))

-- The records of one more packet keep a list within its limits.
pub list_more : (settings : ImportSettings) (packets : List CapturedPacket) (next : CapturedPacket)
    → Tells (progress_behind settings no_progress packets) (imported settings packets)
    → AreSendings (imported settings packets)
    → AllByRecursion IsSending (sendings_of settings (progress_behind settings no_progress packets) next)
    → (progress_behind settings no_progress (packets ++ next ∷ [])).records ≤ record_limit
    → AreSendings (imported settings (packets ++ next ∷ []))
list_more settings packets next tells list fit few =
    let p = progress_behind settings no_progress packets in
    let more = sendings_of settings p next in
    let further = tells_more settings packets next tells in
    record {
      each = subst (AllByRecursion IsSending) (sym (sendings_more settings no_progress packets next))
          (All-append IsSending (imported settings packets) more list.each fit);
      order = subst (AreInFrameOrder 0) (sym (sendings_more settings no_progress packets next))
          (order_found settings p next.time (to_radios next.link next.octets) (imported settings packets) tells list.order);
      few = let e = further.records in omega (arith, e, few);
    }

-- With no packet yet, only the heads are read and written.
pub imported_none : (settings : ImportSettings) (state : CaptureState) (head : List ℕ) (a b d e : Option (List ℕ))
    → BeginsCapture head state → Consumes a b head → Appends d e (head_octets outgoing_magic)
    → AreImported settings state [] a b d e
imported_none settings state head a b d e begins took put = record {
  read = read_to_none state head a b begins took;
  list = record { each = tt; order = tt; few = omega arith };
  written = subst (Appends d e) (sym (append-nil (head_octets outgoing_magic))) put;
}

-- A list can be torn in its head.
pub head_torn : (settings : ImportSettings) (state : CaptureState) (head : List ℕ) (a b d e : Option (List ℕ))
    → BeginsCapture head state → Consumes a b head → Tears d e (head_octets outgoing_magic) → IsListTorn settings a b d e
head_torn settings state head a b d e begins took torn = record {
  state = state;
  packets = [];
  read = read_to_none state head a b begins took;
  list = record { each = tt; order = tt; few = omega arith };
  written = subst (Tears d e) (sym (append-nil (head_octets outgoing_magic))) torn;
}

written_more : (settings : ImportSettings) (packets : List CapturedPacket) (next : CapturedPacket)
    → outgoing_file (imported settings (packets ++ next ∷ []))
    ≡ outgoing_file (imported settings packets)
    ++ sendings_octets (sendings_of settings (progress_behind settings no_progress packets) next)
written_more settings packets next =
    ap outgoing_file (sendings_more settings no_progress packets next)
    ∙ file_more (imported settings packets) (sendings_of settings (progress_behind settings no_progress packets) next)

-- One more packet was read, and its records were written.
pub imported_more : (settings : ImportSettings) (state new : CaptureState) (packets : List CapturedPacket) (next : CapturedPacket)
    (octets : List ℕ) (a b c d e f : Option (List ℕ)) → AreImported settings state packets a b d e
    → AreRead state octets new (next ∷ []) → Consumes b c octets → AreSendings (imported settings (packets ++ next ∷ []))
    → Appends e f (sendings_octets (sendings_of settings (progress_behind settings no_progress packets) next))
    → AreImported settings new (packets ++ next ∷ []) a c d f
imported_more settings state new packets next octets a b c d e f before read took list put = record {
  read = read_to_more state new packets next octets a b c before.read read took;
  list = list;
  written = subst (Appends d f) (sym (written_more settings packets next)) (Appends-trans d e f _ _ before.written put);
}

-- One more packet was read, and its records were torn.
pub imported_torn : (settings : ImportSettings) (state new : CaptureState) (packets : List CapturedPacket) (next : CapturedPacket)
    (octets : List ℕ) (a b c d e f : Option (List ℕ)) → AreImported settings state packets a b d e
    → AreRead state octets new (next ∷ []) → Consumes b c octets → AreSendings (imported settings (packets ++ next ∷ []))
    → Tears e f (sendings_octets (sendings_of settings (progress_behind settings no_progress packets) next))
    → IsListTorn settings a c d f
imported_torn settings state new packets next octets a b c d e f before read took list torn = record {
  state = new;
  packets = packets ++ next ∷ [];
  read = read_to_more state new packets next octets a b c before.read read took;
  list = list;
  written = subst (Tears d f) (sym (written_more settings packets next)) (Tears_after d e f _ _ before.written torn);
}
