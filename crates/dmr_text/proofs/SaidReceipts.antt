-- The records of a received list that lines say go on, line by line.
use Rattle.std.proofs.Common.{◌≡◌, ℕ, ◌<◌, List, [], ◌∷◌, ◌++◌, length, Option, None, Some, refl, sym, ap, ◌∙◌, subst}
use Rattle.std.proofs.Common.{arith}
use Rattle.std.specs.List.{AllZip}
use Rattle.std.proofs.ByRecursion.{All-push}
use Rattle.std.proofs.lemmas.List.{length_push}
use Rattle.std.proofs.KnownBytes.{Appends-nil}
use Rattle.dmr_words.specs.Lines.{Line, TextState, worded_behind}
use Rattle.dmr_words.specs.Words.{line_words}
use Rattle.dmr_words.proofs.Telling.{tells_none}
use Rattle.dmr_record.specs.Received.{Follows, IsReadable, Receipt, ReceivedFields, kind_octet, last_fields}
use Rattle.dmr_record.specs.Received.{received_fields, received_limit}
use Rattle.dmr_record.specs.declared.received.ReceivedKind.{ReceivedKind}
use Rattle.dmr_record.specs.declared.received.ReceivedKind.TheVariants.{Datagram}
use Rattle.dmr_text.specs.Files.File.{Receipts}
use Rattle.dmr_text.specs.Says.{SaysReceipt, words_of_lines}
use Rattle.dmr_text.specs.Spelling.{records_words}
use Rattle.dmr_text.specs.Telling.{IsTaken, Names, SaysWhole}
use Rattle.dmr_text.specs.TextFaults.{order_fields}
use Rattle.dmr_text.proofs.Receipts.{order_more}
use Rattle.dmr_text.proofs.Zips.{words_more, zip_push}

-- where a record of some kind may stand, a datagram may
pub any_follows : (last : Option ReceivedFields) (frame slot : ℕ) (kind : ReceivedKind) → Follows last
    (order_fields frame slot kind)
    → Follows last (order_fields frame slot Datagram)
any_follows None frame slot kind follows = tt
any_follows (Some last) frame slot kind follows = record {
  frame = follows.frame;
  slot = follows.slot;
  kind = λ f s. ((follows.kind f s).0, omega arith);
}

-- the source and the count don't matter
pub follows_as : (last : Option ReceivedFields) (frame slot source count : ℕ) (kind : ReceivedKind)
    → Follows last (order_fields frame slot kind)
    → Follows last (record { frame = frame; slot = slot; kind = kind_octet kind; source = source; count = count })
follows_as None frame slot source count kind follows = tt
follows_as (Some last) frame slot source count kind follows = record {
  frame = follows.frame;
  slot = follows.slot;
  kind = follows.kind;
}

-- a line more says a record
pub names_receipt : (receipts : List Receipt) (next : Receipt) (line : Line)
    → length receipts < received_limit → IsReadable next → Follows (last_fields None receipts) (received_fields next)
    → SaysReceipt (line_words line.octets) next
    → (said : List Line) → Names said (Receipts receipts) → Names (said ++ line ∷ []) (Receipts (receipts ++ next ∷ []))
names_receipt receipts next line below readable follows says said names =
    let (each, order) = names.records in
    let long = length_push receipts next in
    record {
      says = subst (λ (w : List (List (List ℕ))). AllZip SaysReceipt w (receipts ++ next ∷ [])) (sym (words_more said line))
          (zip_push SaysReceipt (words_of_lines said) receipts (line_words line.octets) next names.says says);
      records = (All-push IsReadable receipts next each readable, order_more None receipts next order follows);
      within = omega (arith, long, below);
      named = tt;
    }

-- the last line says how many there are
pub says_receipts : (receipts : List Receipt) (count : ℕ) (line : Line) → length receipts ≡ count
    → line_words line.octets ≡ records_words count → (said : List Line) → Names said (Receipts receipts)
    → SaysWhole (said ++ line ∷ []) (Receipts receipts)
says_receipts receipts count line counted is said names = record {
  before = said;
  last = line;
  parts = refl;
  says = names.says;
  count = is ∙ ap records_words (sym counted);
  records = names.records;
  within = names.within;
  whole = tt;
}

-- no line was told
pub receipts_untold : (s : TextState) (left held : Option (List ℕ)) → IsTaken (Receipts []) s s left left held held
receipts_untold s left held = record {
  said = [];
  told = tells_none worded_behind s left;
  names = record { says = tt; records = (tt, tt); within = omega arith; named = tt };
  written = Appends-nil held;
}
