-- A text that was read to its end.
use Rattle.std.proofs.Common.{◌≡◌, ℕ, List, [], ◌∷◌, ◌++◌, Option, Result, Ok, Err, refl, sym, ap, ◌∙◌, subst, append-nil}
use Rattle.std.proofs.Common.{true}
use Rattle.std.specs.Prelude.{IfOk, OnOk}
use Rattle.std.specs.Io.KnownBytes.{Appends, IsAtEnd}
use Rattle.std.proofs.KnownBytes.{Appends-trans}
use Rattle.dmr_record.specs.Head.{head_octets, magic_of}
use Rattle.dmr_record.specs.declared.head.FileFormat.{FileFormat}
use Rattle.dmr_words.specs.Lines.{IsBehindLines, Line, TellsLines, TextState, fresh_text, has_short_lines, worded_behind}
use Rattle.dmr_words.proofs.Telling.{tells_all, tells_both}
use Rattle.dmr_text.specs.Files.{file_format, records_octets}
use Rattle.dmr_text.specs.Imports.{IsBegun, IsImported, IsImportedBehind, SaysFile}
use Rattle.dmr_text.specs.Spelling.{title_words}
use Rattle.dmr_text.specs.declared.carried.Carried.{Carried}

short_told : (end : TextState) (a c : Option (List ℕ)) (told : List Line) (t : TellsLines worded_behind fresh_text end a c told)
    → IsBehindLines end
    → has_short_lines t.taken ≡ true
short_told end a c told t done =
    ap has_short_lines (sym (append-nil t.taken))
    ∙ t.short [] (λ o. refl)
    ∙ ap (λ (l : List ℕ). has_short_lines (l ++ [])) done.none

imported_whole : (carried : Carried) (format : FileFormat) (mid new : TextState) (a b c h i j : Option (List ℕ))
    → IsBegun format mid a b
    → Appends h i (head_octets (magic_of format)) → IsAtEnd c → IsImportedBehind format carried mid new b c i j
    → IsImported carried a c h j
imported_whole carried format mid new a b c h i j begun head end behind =
    let taken = behind.taken in
    let all = tells_both worded_behind fresh_text mid new a b c (begun.first ∷ []) taken.said begun.told taken.told in
    let says : SaysFile (begun.first ∷ taken.said) behind.file = record {
      first = begun.first;
      others = taken.said;
      parts = refl;
      format = begun.says ∙ ap title_words (sym behind.same);
      whole = taken.says;
    } in
    let same_head : head_octets (magic_of format) ≡ head_octets (magic_of (file_format behind.file)) =
    ap (λ (f : FileFormat). head_octets (magic_of f)) (sym behind.same) in
    record {
      file = behind.file;
      text = all.taken;
      read = all.consumed;
      end = end;
      short = short_told new a c _ all behind.done;
      says = subst (λ (lines : List Line). SaysFile lines behind.file)
          (sym (tells_all worded_behind new a c _ refl all behind.done)) says;
      written = Appends-trans h i j _ (records_octets behind.file) (subst (Appends h i) same_head head) taken.written;
      counted = behind.counted;
    }

-- where the first line was told, the head written and the rest imported, the whole text was imported
pub imported : {E : Type 0} (result : Result Carried E) (format : FileFormat) (mid new : TextState) (a b c h i j : Option (List ℕ))
    → IsBegun format mid a b → Appends h i (head_octets (magic_of format)) → OnOk result (IsAtEnd c)
    → IfOk result (λ carried. IsImportedBehind format carried mid new b c i j) → IfOk result (λ carried. IsImported carried a c h j)
imported (Ok carried) format mid new a b c h i j begun head end behind =
    imported_whole carried format mid new a b c h i j begun head end behind
imported (Err e) format mid new a b c h i j begun head end behind = tt
