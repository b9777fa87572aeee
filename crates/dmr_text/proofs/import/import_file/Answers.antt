use Rattle.std.proofs.Common.{◌∙◌, ap, subst, sym, true}
use Rattle.dmr_record.specs.Head.{head_octets}
use Rattle.dmr_words.specs.Lines.{TextState, TellsLines, told_now, worded_behind}
use Rattle.dmr_words.specs.Words.{line_words}
use Rattle.dmr_text.specs.Imports.{IsBegun}
use Rattle.dmr_text.proofs.Imported.{imported}
use Rattle.dmr_text.proofs.Puts.{line_put}
use Rattle.dmr_text.proofs.import.import_file.Goals as goal

pub returns-clause-all : goal.returns-clause-all
returns-clause-all g c =
    let mid = c.tell_line.new.lines in
    let left = g.S.Source.left c.args.source.now in
    let left_mid = g.S.Source.left c.tell_line.new.source in
    let begun : IsBegun c.in-Some.format mid left left_mid = record {
      first = record { number = mid.number; octets = mid.line };
      told = subst
          (λ (s : TextState). TellsLines worded_behind s mid left left_mid
          (told_now true mid)) c.requires.lines c.in_default.ensures.told;
      says = ap line_words (sym c.line.ensures.value) ∙ c.in-Some.ensures.format;
    } in
    imported c.import_behind.result c.in-Some.format mid c.import_behind.new.lines _ _ _ _ _ _ begun
    (line_put c.write_head.result _ _ _ _ (sym c.is_err.ensures.value ∙ c.if-is_err.false) c.write_head.ensures.head
    (ap head_octets c.magic.ensures.magic))
    c.import_behind.ensures.end c.import_behind.ensures.all
