-- What a call gives, by how it ended.
use Rattle.std.proofs.Common.{◌≡◌, ℕ, Bool, List, [], Option, Some, refl, sym, ◌∙◌, subst}
use Rattle.std.specs.Prelude.{Result, Ok, Err, IfErr, OnOk}
use Rattle.std.specs.Io.KnownBytes.{IsAtEnd}
use Rattle.dmr_lines.specs.Line.{PutsLine}
use Rattle.dmr_listing.specs.declared.frames.Frames.{Frames}
use Rattle.dmr_record.specs.declared.head.FileFormat.{FileFormat}
use Rattle.dmr_recording.specs.Endings.{IfFile, IfNotWritten}
use Rattle.dmr_recording.specs.declared.recording.Recording.{Recording}
use Rattle.dmr_recording.specs.declared.stop.Stop.{Stop}
use Rattle.dmr_recording.specs.declared.stop.Stop.TheVariants.{File, Output}
use Rattle.dmr_show.proofs.Printed.{puts_one}
use Rattle.dmr_show.specs.Showing.{IsHeadFault, format_of}
use Rattle.dmr_web.specs.Calls.{IsAllListed, IsAllPictured, IsFaultListed, IsFaultPictured, IsHeadFaultListed, IsHeadListed}
use Rattle.dmr_web.specs.Calls.{IsPartListed, notation_asked, status_at, status_by_end, told_at, told_by_end}
use Rattle.dmr_web.specs.Numbers.{all_listed, fault_met, format_number, numbered_format, text_full, told_text}
use Rattle.dmr_web.specs.Pictures.{IsPicturedToEnd, IsPicturedToFault}
use Rattle.dmr_web.specs.Windows.{IsHeadRead, IsListedInPart, IsListedToEnd, IsListedToFault, front_held}
use Rattle.dmr_web.specs.declared.numbers.Told.{Told}
use Rattle.dmr_web.specs.declared.window.WrittenAs.{WrittenAs}

-- no status is another one
wrong_fault : fault_met ≡ all_listed → ⊥
wrong_fault e = cc

wrong_part : text_full ≡ all_listed → ⊥
wrong_part e = cc

wrong_all : all_listed ≡ fault_met → ⊥
wrong_all e = cc

wrong_full : text_full ≡ fault_met → ⊥
wrong_full e = cc

wrong_none : all_listed ≡ text_full → ⊥
wrong_none e = cc

wrong_met : fault_met ≡ text_full → ⊥
wrong_met e = cc

-- what is told of a window of its notation, its frame and what it leaves out, is told of the arguments
asked_of : (P : WrittenAs → ℕ → ℕ → Option (List ℕ) → Option (List ℕ) → Option (List ℕ) → Type 0) (written asked : WrittenAs)
    (counted frame left_out from : ℕ) (a a' h h' k k' : Option (List ℕ)) → written ≡ asked → counted ≡ frame → left_out ≡ from
    → a ≡ a' → h ≡ h' → k ≡ k' → P written counted left_out a h k → P asked frame from a' h' k'
asked_of P written asked counted frame left_out from a a' h h' k k' notation first out of none shown holds =
    subst (λ w. P w frame from a' h' k') notation (subst (λ f. P written f from a' h' k') first
    (subst (λ n. P written counted n a' h' k') out (subst (λ o. P written counted left_out o h' k') of
    (subst (λ o. P written counted left_out a o k') none (subst (λ o. P written counted left_out a h o) shown holds)))))

-- what is answered of a list that was told whole
pub all_by_end : {T : Type 0} (r : Result T Stop) (is_json : Bool) (written : WrittenAs)
    (status number frame from counted left_out length next : ℕ) (octets text : List ℕ) (told : Told) (format : FileFormat)
    (a b h k : Option (List ℕ)) → status ≡ status_by_end r → told ≡ told_by_end r length next
    → numbered_format number ≡ Some format → a ≡ Some octets → h ≡ Some [] → written ≡ notation_asked is_json → counted ≡ frame
    → left_out ≡ from → OnOk r (IsListedToEnd format written counted left_out next 1 a b h k) → OnOk r (IsAtEnd b)
    → k ≡ front_held text length → status ≡ all_listed → IsAllListed number is_json frame from octets text told
all_by_end (Ok x) is_json written status number frame from counted left_out length next octets text told format a b h k is tells
    asked of none notation first out listed end shown met =
    subst (λ t. IsAllListed number is_json frame from octets text t) (sym tells) (record {
      format = format;
      asked = asked;
      left = b;
      listed = asked_of (λ w f n o i j. IsListedToEnd format w f n next 1 o b i j) written (notation_asked is_json) counted frame
          left_out from a (Some octets) h (Some []) k (front_held text length) notation first out of none shown listed;
      end = end;
    })
all_by_end (Err (File fault)) is_json written status number frame from counted left_out length next octets text told format a b h k
    is tells asked of none notation first out listed end shown met =
    absurd (wrong_fault (sym is ∙ met))
all_by_end (Err Output) is_json written status number frame from counted left_out length next octets text told format a b h k
    is tells asked of none notation first out listed end shown met =
    absurd (wrong_part (sym is ∙ met))

-- what is answered of one that was told up to a fault of its file
pub fault_by_end : {T : Type 0} (r : Result T Stop) (is_json : Bool) (written : WrittenAs)
    (status number frame from counted left_out length next : ℕ) (octets text : List ℕ) (told : Told) (format : FileFormat)
    (a b h k : Option (List ℕ)) → status ≡ status_by_end r → told ≡ told_by_end r length next
    → numbered_format number ≡ Some format → a ≡ Some octets → h ≡ Some [] → written ≡ notation_asked is_json → counted ≡ frame
    → left_out ≡ from → IfErr r (λ e. IfFile e (λ fault. IsListedToFault format written counted left_out next 1 fault a b h k))
    → k ≡ front_held text length → status ≡ fault_met → IsFaultListed number is_json frame from octets text told
fault_by_end (Ok x) is_json written status number frame from counted left_out length next octets text told format a b h k
    is tells asked of none notation first out listed shown met =
    absurd (wrong_all (sym is ∙ met))
fault_by_end (Err (File fault)) is_json written status number frame from counted left_out length next octets text told format a b h
    k is tells asked of none notation first out listed shown met =
    subst (λ t. IsFaultListed number is_json frame from octets text t) (sym tells) (record {
      format = format;
      asked = asked;
      left = b;
      fault = fault;
      listed = asked_of (λ w f n o i j. IsListedToFault format w f n next 1 fault o b i j) written (notation_asked is_json) counted
          frame left_out from a (Some octets) h (Some []) k (front_held text length) notation first out of none shown listed;
      which = refl;
    })
fault_by_end (Err Output) is_json written status number frame from counted left_out length next octets text told format a b h k
    is tells asked of none notation first out listed shown met =
    absurd (wrong_full (sym is ∙ met))

-- what is answered of one that was told as far as there was room for text
pub part_by_end : {T : Type 0} (r : Result T Stop) (is_json : Bool) (written : WrittenAs)
    (status number frame from counted left_out length next : ℕ) (octets text : List ℕ) (told : Told) (format : FileFormat)
    (a b h k : Option (List ℕ)) → status ≡ status_by_end r → told ≡ told_by_end r length next
    → numbered_format number ≡ Some format → a ≡ Some octets → h ≡ Some [] → written ≡ notation_asked is_json → counted ≡ frame
    → left_out ≡ from → IfErr r (λ e. IfNotWritten e (IsListedInPart format written counted left_out next a b h k))
    → k ≡ front_held text length → status ≡ text_full → IsPartListed number is_json frame from octets text told
part_by_end (Ok x) is_json written status number frame from counted left_out length next octets text told format a b h k
    is tells asked of none notation first out listed shown met =
    absurd (wrong_none (sym is ∙ met))
part_by_end (Err (File fault)) is_json written status number frame from counted left_out length next octets text told format a b h
    k is tells asked of none notation first out listed shown met =
    absurd (wrong_met (sym is ∙ met))
part_by_end (Err Output) is_json written status number frame from counted left_out length next octets text told format a b h k
    is tells asked of none notation first out listed shown met =
    subst (λ t. IsPartListed number is_json frame from octets text t) (sym tells) (record {
      format = format;
      asked = asked;
      left = b;
      listed = asked_of (λ w f n o i j. IsListedInPart format w f n next o b i j) written (notation_asked is_json) counted frame
          left_out from a (Some octets) h (Some []) k (front_held text length) notation first out of none shown listed;
    })

-- what is answered of a recording that was drawn whole
pub pictured_by_end : {T : Type 0} (r : Result T Stop) (status number length next : ℕ) (frames : Frames) (octets text : List ℕ)
    (told : Told) (recording : Recording) (a b h k : Option (List ℕ)) → status ≡ status_by_end r → told ≡ told_by_end r length next
    → numbered_format number ≡ Some (format_of recording) → a ≡ Some octets → h ≡ Some []
    → OnOk r (IsPicturedToEnd recording frames 1 a b h k) → OnOk r (IsAtEnd b) → k ≡ front_held text length
    → status ≡ all_listed → IsAllPictured number frames octets text told
pictured_by_end (Ok x) status number length next frames octets text told recording a b h k is tells asked of none listed end shown
    met =
    subst (λ t. IsAllPictured number frames octets text t) (sym tells) (record {
      recording = recording;
      asked = asked;
      left = b;
      pictured = subst (λ o. IsPicturedToEnd recording frames 1 o b (Some []) (front_held text length)) of
          (subst (λ o. IsPicturedToEnd recording frames 1 a b o (front_held text length)) none
          (subst (λ o. IsPicturedToEnd recording frames 1 a b h o) shown listed));
      end = end;
    })
pictured_by_end (Err (File fault)) status number length next frames octets text told recording a b h k is tells asked of none
    listed end shown met =
    absurd (wrong_fault (sym is ∙ met))
pictured_by_end (Err Output) status number length next frames octets text told recording a b h k is tells asked of none listed end
    shown met =
    absurd (wrong_part (sym is ∙ met))

-- what is answered of one that was drawn up to a fault of its file
pub picture_fault_by_end : {T : Type 0} (r : Result T Stop) (status number length next : ℕ) (frames : Frames) (octets text : List ℕ)
    (told : Told) (recording : Recording) (a b h k : Option (List ℕ)) → status ≡ status_by_end r → told ≡ told_by_end r length next
    → numbered_format number ≡ Some (format_of recording) → a ≡ Some octets → h ≡ Some []
    → IfErr r (λ e. IfFile e (λ fault. IsPicturedToFault recording frames 1 fault a b h k)) → k ≡ front_held text length
    → status ≡ fault_met → IsFaultPictured number frames octets text told
picture_fault_by_end (Ok x) status number length next frames octets text told recording a b h k is tells asked of none listed
    shown met =
    absurd (wrong_all (sym is ∙ met))
picture_fault_by_end (Err (File fault)) status number length next frames octets text told recording a b h k is tells asked of none
    listed shown met =
    subst (λ t. IsFaultPictured number frames octets text t) (sym tells) (record {
      recording = recording;
      asked = asked;
      left = b;
      fault = fault;
      pictured = subst (λ o. IsPicturedToFault recording frames 1 fault o b (Some []) (front_held text length)) of
          (subst (λ o. IsPicturedToFault recording frames 1 fault a b o (front_held text length)) none
          (subst (λ o. IsPicturedToFault recording frames 1 fault a b h o) shown listed));
      which = refl;
    })
picture_fault_by_end (Err Output) status number length next frames octets text told recording a b h k is tells asked of none
    listed shown met =
    absurd (wrong_full (sym is ∙ met))

-- what is answered of a head that was read
pub head_told : (file text : List ℕ) (length : ℕ) (told : Told) (format : FileFormat) (a b h k : Option (List ℕ))
    → told ≡ record (told_text length 0) { format = format_number format } → a ≡ Some file → h ≡ Some []
    → IsHeadRead format a b → PutsLine h k → k ≡ front_held text length → IsHeadListed file text told
head_told file text length told format a b h k tells of none head line shown =
    subst (λ t. IsHeadListed file text t) (sym tells) (record {
      format = format;
      behind = b;
      head = subst (λ o. IsHeadRead format o b) of head;
      which = refl;
      line = puts_one (Some []) (front_held text length) (subst (λ o. PutsLine o (front_held text length)) none
          (subst (λ o. PutsLine h o) shown line));
    })

-- what is answered of a head at fault
pub head_fault_told : (stop : Stop) (status length next : ℕ) (file text : List ℕ) (told : Told) (a b h k : Option (List ℕ))
    → status ≡ status_at stop → told ≡ told_at stop length next → a ≡ Some file → h ≡ Some []
    → IfFile stop (λ fault. IsHeadFault fault a b) → IfFile stop (λ fault. PutsLine h k) → k ≡ front_held text length
    → status ≡ fault_met → IsHeadFaultListed file text told
head_fault_told (File fault) status length next file text told a b h k is tells of none head line shown met =
    subst (λ t. IsHeadFaultListed file text t) (sym tells) (record {
      fault = fault;
      left = b;
      head = subst (λ o. IsHeadFault fault o b) of head;
      which = refl;
      line = puts_one (Some []) (front_held text length) (subst (λ o. PutsLine o (front_held text length)) none
          (subst (λ o. PutsLine h o) shown line));
    })
head_fault_told Output status length next file text told a b h k is tells of none head line shown met =
    absurd (wrong_full (sym is ∙ met))

-- an empty text holds no line
pub none_held : (text : List ℕ) (length : ℕ) → length ≡ 0 → front_held text length ≡ Some []
none_held text length none = subst (λ n. front_held text n ≡ Some []) (sym none) refl

-- one text holds the same under another name
pub same_held : (shown text : List ℕ) (length : ℕ) → shown ≡ text → front_held shown length ≡ front_held text length
same_held shown text length same = subst (λ t. front_held shown length ≡ front_held t length) same refl
