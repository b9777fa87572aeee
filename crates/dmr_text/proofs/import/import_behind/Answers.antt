use Rattle.dmr_text.proofs.Taken.{whole_to_end}
use Rattle.dmr_text.proofs.import.import_behind.Goals as goal

pub returns-in-Ok-tell_end-clause-all : goal.returns-in-Ok-tell_end-clause-all
returns-in-Ok-tell_end-clause-all g c =
    let (file, same, counted, taken) = c.in-Ok.ensures.all in
    let end = c.in-Ok-tell_end.ensures.told in
    record {
      file = file;
      same = same;
      taken = whole_to_end file _ _ c.tell_end.new.lines _ _ _ _ _ taken end;
      done = end.done;
      counted = counted;
    }
