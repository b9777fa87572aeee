-- The records of an outgoing list that lines say go on, line by line.
use Rattle.std.proofs.Common.{◌≡◌, ℕ, ◌<◌, ◌≤◌, List, [], ◌∷◌, ◌++◌, length, Option, refl, sym, ap, ◌∙◌, subst, arith}
use Rattle.std.specs.List.{AllZip}
use Rattle.std.proofs.ByRecursion.{All-push}
use Rattle.std.proofs.lemmas.List.{length_push}
use Rattle.std.proofs.KnownBytes.{Appends-nil}
use Rattle.dmr_words.specs.Lines.{Line, TextState, worded_behind}
use Rattle.dmr_words.specs.Words.{line_words}
use Rattle.dmr_words.proofs.Telling.{tells_none}
use Rattle.dmr_record.specs.Head.{record_limit}
use Rattle.dmr_record.specs.Outgoing.{IsSending, Sending, last_frame}
use Rattle.dmr_text.specs.Files.File.{Sendings}
use Rattle.dmr_text.specs.Says.{SaysSending, words_of_lines}
use Rattle.dmr_text.specs.Spelling.{records_words}
use Rattle.dmr_text.specs.Telling.{IsTaken, Names, SaysWhole}
use Rattle.dmr_text.proofs.Sendings.{order_more}
use Rattle.dmr_text.proofs.Zips.{words_more, zip_push}

-- a line more says a record
pub names_sending : (sendings : List Sending) (next : Sending) (line : Line)
    → length sendings < record_limit → IsSending next → last_frame 0 sendings ≤ next.frame → SaysSending
    (line_words line.octets) next
    → (said : List Line) → Names said (Sendings sendings) → Names (said ++ line ∷ []) (Sendings (sendings ++ next ∷ []))
names_sending sendings next line below is_sending behind says said names =
    let (each, order) = names.records in
    let long = length_push sendings next in
    record {
      says = subst (λ (w : List (List (List ℕ))). AllZip SaysSending w (sendings ++ next ∷ [])) (sym (words_more said line))
          (zip_push SaysSending (words_of_lines said) sendings (line_words line.octets) next names.says says);
      records = (All-push IsSending sendings next each is_sending, order_more 0 sendings next order behind);
      within = omega (arith, long, below);
      named = tt;
    }

-- the last line says how many there are
pub says_sendings : (sendings : List Sending) (count : ℕ) (line : Line) → length sendings ≡ count
    → line_words line.octets ≡ records_words count → (said : List Line) → Names said (Sendings sendings)
    → SaysWhole (said ++ line ∷ []) (Sendings sendings)
says_sendings sendings count line counted is said names = record {
  before = said;
  last = line;
  parts = refl;
  says = names.says;
  count = is ∙ ap records_words (sym counted);
  records = names.records;
  within = names.within;
  whole = tt;
}

-- no line was told
pub sendings_untold : (s : TextState) (left held : Option (List ℕ)) → IsTaken (Sendings []) s s left left held held
sendings_untold s left held = record {
  said = [];
  told = tells_none worded_behind s left;
  names = record { says = tt; records = (tt, tt); within = omega arith; named = tt };
  written = Appends-nil held;
}
