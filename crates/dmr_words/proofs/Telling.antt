-- What was told from one state of a reader to another.
use Rattle.std.proofs.Common.{◌≡◌, ℕ, ◌+◌, ◌<◌, ◌≤◌, true, false, List, [], ◌∷◌, ◌++◌, length, Option, ap, ◌∙◌, sym, refl}
use Rattle.std.proofs.Common.{append_assoc, append-nil, subst}
use Rattle.std.specs.List.{filter}
use Rattle.std.specs.Str.Lines.{strip_carriage_return}
use Rattle.std.proofs.KnownBytes.{Consumes-nil, Consumes-trans}
use Rattle.std.proofs.lemmas.Bool.{false≢true, cond-true, cond-false}
use Rattle.std.proofs.lemmas.List.Elements.{filter-append}
use Rattle.dmr_words.specs.Words.{is_worded}
use Rattle.dmr_words.specs.Lines.{Line, TextState, TellsLines, Gathers, IsBehindLines, MayFollow, fresh_text, told_now, untold}
use Rattle.dmr_words.specs.Lines.{numbered_lines, numbered_line, lines_behind, worded_behind, line_length, line_limit}
use Rattle.dmr_words.specs.Lines.{has_short_lines}
use Rattle.dmr_words.proofs.Feeds.{lines_fed, lines_unfed, short_fed, short_unfed}

-- what was told on the way to a state, and from there on
pub tells_both : (seen : ℕ → List ℕ → List Line) (a b c : TextState) (x y z : Option (List ℕ)) (first second : List Line)
    → TellsLines seen a b x y first → TellsLines seen b c y z second → TellsLines seen a c x z (first ++ second)
tells_both seen a b c x y z first second f s =
    let front : (more : List ℕ) → (a.pending ++ (f.taken ++ s.taken)) ++ more ≡ (a.pending ++ f.taken) ++ (s.taken ++ more) =
    λ more. ap (λ l. l ++ more) (sym (append_assoc a.pending f.taken s.taken)) ∙ append_assoc (a.pending ++ f.taken) s.taken more in
    let behind : (more : List ℕ) → b.pending ++ (s.taken ++ more) ≡ (b.pending ++ s.taken) ++ more =
    λ more. sym (append_assoc b.pending s.taken more) in
    let may : (more : List ℕ) → MayFollow c more → MayFollow b (s.taken ++ more) =
    λ more h o. ap (λ l. l ++ more) (s.quiet o) ∙ h (s.stays o) in
    record {
      taken = f.taken ++ s.taken;
      consumed = Consumes-trans x y z f.taken s.taken f.consumed s.consumed;
      lines = λ more h. ap (seen a.number) (front more) ∙ f.lines (s.taken ++ more) (may more h)
          ∙ ap (λ (l : List ℕ). first ++ seen b.number l) (behind more)
          ∙ ap (λ l. first ++ l) (s.lines more h) ∙ sym (append_assoc first second (seen c.number (c.pending ++ more)));
      short = λ more h. ap has_short_lines (front more) ∙ f.short (s.taken ++ more) (may more h)
          ∙ ap has_short_lines (behind more) ∙ s.short more h;
      quiet = λ o. ap (λ l. l ++ s.taken) (f.quiet o) ∙ s.quiet (f.stays o);
      stays = λ o. s.stays (f.stays o);
    }

-- nothing was told, and nothing read
pub tells_none : (seen : ℕ → List ℕ → List Line) (s : TextState) (x : Option (List ℕ)) → TellsLines seen s s x x []
tells_none seen s x = record {
  taken = [];
  consumed = Consumes-nil x;
  lines = λ more h. ap (λ (l : List ℕ). seen s.number (l ++ more)) (append-nil s.pending);
  short = λ more h. ap (λ (l : List ℕ). has_short_lines (l ++ more)) (append-nil s.pending);
  quiet = λ o. refl;
  stays = λ o. o;
}

-- of the lines that were told, those that count
pub tells_worded : (a b : TextState) (x y : Option (List ℕ)) (told : List Line) → TellsLines lines_behind a b x y told
    → TellsLines worded_behind a b x y (filter (λ line. is_worded line.octets) told)
tells_worded a b x y told t = record {
  taken = t.taken;
  consumed = t.consumed;
  lines = λ more h. ap (filter (λ (line : Line). is_worded line.octets)) (t.lines more h)
      ∙ filter-append (λ (line : Line). is_worded line.octets) told (lines_behind b.number (b.pending ++ more));
  short = t.short;
  quiet = t.quiet;
  stays = t.stays;
}

module _ (old new : TextState) (x y : Option (List ℕ)) (going : old.is_over ≡ false) where
  behind : (octets : List ℕ) (p : Gathers x y old.pending octets) (more : List ℕ)
      → (old.pending ++ p.taken) ++ more ≡ octets ++ more
  behind octets p more = ap (λ l. l ++ more) p.octets

  -- a line that a line feed ended
  pub tells_fed : (front : List ℕ) → Gathers x y old.pending (front ++ 10 ∷ new.pending) → line_length front ≡ length front
      → length front ≤ line_limit → new.line ≡ strip_carriage_return front → new.number ≡ old.number + 1
      → TellsLines lines_behind old new x y (told_now true new)
  tells_fed front p h l line number = record {
    taken = p.taken;
    consumed = p.consumed;
    lines = λ more may.
        let rest = new.pending ++ more in
        let whole : (old.pending ++ p.taken) ++ more ≡ front ++ (10 ∷ rest) =
        behind (front ++ 10 ∷ new.pending) p more ∙ append_assoc front (10 ∷ new.pending) more in
        ap (lines_behind old.number) whole ∙ ap (numbered_lines old.number) (lines_fed front rest h)
        ∙ ap (λ (n : ℕ). record { number = n; octets = strip_carriage_return front } ∷ lines_behind n rest) (sym number)
        ∙ ap (λ (l : List ℕ). record { number = new.number; octets = l } ∷ lines_behind new.number rest) (sym line);
    short = λ more may.
        ap has_short_lines (behind (front ++ 10 ∷ new.pending) p more ∙ append_assoc front (10 ∷ new.pending) more)
        ∙ short_fed front (new.pending ++ more) h l;
    quiet = λ o. absurd (false≢true (sym going ∙ o));
    stays = λ o. absurd (false≢true (sym going ∙ o));
  }

  -- a line that the end of the text ended
  pub tells_last : Gathers x y old.pending new.line → line_length new.line ≡ length new.line → length new.line ≤ line_limit
      → 0 < length new.line → new.pending ≡ [] → new.is_over ≡ true → new.number ≡ old.number + 1
      → TellsLines lines_behind old new x y (told_now true new)
  tells_last p h l some pending over number =
      let whole : (more : List ℕ) → MayFollow new more → (old.pending ++ p.taken) ++ more ≡ new.line =
      λ more may. behind new.line p more ∙ ap (λ l. new.line ++ l) (may over) ∙ append-nil new.line in
      let none : (more : List ℕ) → MayFollow new more → new.pending ++ more ≡ [] = λ more may. ap (λ l. l ++ more) pending
      ∙ may over in
      record {
        taken = p.taken;
        consumed = p.consumed;
        lines = λ more may.
            ap (lines_behind old.number) (whole more may) ∙ ap (numbered_lines old.number) (lines_unfed new.line h some)
            ∙ ap (λ (n : ℕ). record { number = n; octets = new.line } ∷ []) (sym number)
            ∙ ap (λ (l : List ℕ). record { number = new.number; octets = new.line } ∷ lines_behind new.number l) (sym (none more
            may));
        short = λ more may.
            ap has_short_lines (whole more may) ∙ short_unfed new.line h l ∙ ap has_short_lines (sym (none more may));
        quiet = λ o. absurd (false≢true (sym going ∙ o));
        stays = λ o. over;
      }

  -- the end of the text
  pub tells_end : Gathers x y old.pending [] → new.pending ≡ [] → new.is_over ≡ true → TellsLines lines_behind old new x y []
  tells_end p pending over =
      let whole : (more : List ℕ) → MayFollow new more → (old.pending ++ p.taken) ++ more ≡ [] = λ more may. behind [] p more
      ∙ may over in
      let none : (more : List ℕ) → MayFollow new more → new.pending ++ more ≡ [] = λ more may. ap (λ l. l ++ more) pending
      ∙ may over in
      record {
        taken = p.taken;
        consumed = p.consumed;
        lines = λ more may. ap (lines_behind old.number) (whole more may) ∙ ap (lines_behind new.number) (sym (none more may));
        short = λ more may. ap has_short_lines (whole more may) ∙ ap has_short_lines (sym (none more may));
        quiet = λ o. absurd (false≢true (sym going ∙ o));
        stays = λ o. over;
      }

  -- what has come of a line that wasn't told
  pub tells_undone : Gathers x y old.pending (new.line ++ new.pending) → new.number ≡ old.number
      → TellsLines lines_behind old (untold new) x y []
  tells_undone p number = record {
    taken = p.taken;
    consumed = p.consumed;
    lines = λ more may. ap (lines_behind old.number) (behind (new.line ++ new.pending) p more)
        ∙ ap (λ (n : ℕ). lines_behind n ((new.line ++ new.pending) ++ more)) (sym number);
    short = λ more may. ap has_short_lines (behind (new.line ++ new.pending) p more);
    quiet = λ o. absurd (false≢true (sym going ∙ o));
    stays = λ o. absurd (false≢true (sym going ∙ o));
  }

-- behind the end of a text
pub tells_quiet : (old new : TextState) (x : Option (List ℕ)) → new.pending ≡ old.pending → new.number ≡ old.number
    → new.is_over ≡ old.is_over → TellsLines lines_behind old new x x []
tells_quiet old new x pending number over = record {
  taken = [];
  consumed = Consumes-nil x;
  lines = λ more may. ap (λ (n : ℕ). lines_behind n ((old.pending ++ []) ++ more)) (sym number)
      ∙ ap (λ (l : List ℕ). lines_behind new.number (l ++ more)) (append-nil old.pending ∙ sym pending);
  short = λ more may. ap (λ (l : List ℕ). has_short_lines (l ++ more)) (append-nil old.pending ∙ sym pending);
  quiet = λ o. refl;
  stays = λ o. over ∙ o;
}

-- a line that doesn't count
pub tells_passed : (a b c : TextState) (x y z : Option (List ℕ)) → TellsLines worded_behind a b x y []
    → TellsLines lines_behind b c y z (told_now true c)
    → is_worded c.line ≡ false → TellsLines worded_behind a c x z []
tells_passed a b c x y z before t e =
    let one = record { number = c.number; octets = c.line } ∷ [] in
    let none : filter (λ (line : Line). is_worded line.octets) (told_now true c) ≡ [] = cond-false (is_worded c.line) one [] e in
    tells_both worded_behind a b c x y z [] [] before (subst (TellsLines worded_behind b c y z) none (tells_worded b c y z (told_now
    true c) t))

-- a line that counts
pub tells_found : (a b c : TextState) (x y z : Option (List ℕ)) → TellsLines worded_behind a b x y []
    → TellsLines lines_behind b c y z (told_now true c)
    → is_worded c.line ≡ true → TellsLines worded_behind a c x z (told_now true c)
tells_found a b c x y z before t e =
    let one = record { number = c.number; octets = c.line } ∷ [] in
    let all : filter (λ (line : Line). is_worded line.octets) (told_now true c) ≡ told_now true c = cond-true (is_worded c.line) one
    [] e in
    tells_both worded_behind a b c x y z [] (told_now true c) before
    (subst (TellsLines worded_behind b c y z) all (tells_worded b c y z (told_now true c) t))

-- the end of the text, or a fault
pub tells_no_more : (a b c : TextState) (x y z : Option (List ℕ)) → TellsLines worded_behind a b x y []
    → TellsLines lines_behind b c y z []
    → TellsLines worded_behind a c x z []
tells_no_more a b c x y z before t = tells_both worded_behind a b c x y z [] [] before (tells_worded b c y z [] t)

-- the first line of a text, with its number
pub lines_ended : (number : ℕ) (line rest : List ℕ) → line_length line ≡ length line
    → lines_behind number (line ++ 10 ∷ rest) ≡ numbered_line (number + 1) (strip_carriage_return line) ∷ lines_behind (number + 1)
    rest
lines_ended number line rest h = ap (numbered_lines number) (lines_fed line rest h)

-- octets without a line feed, where there are any, are one line, of the next number
pub lines_last : (number : ℕ) (line : List ℕ) → line_length line ≡ length line → 0 < length line
    → lines_behind number line ≡ numbered_line (number + 1) line ∷ []
lines_last number line h some = ap (numbered_lines number) (lines_unfed line h some)

-- what was told up to the end of a text are all lines of it
pub tells_all : (seen : ℕ → List ℕ → List Line) (end : TextState) (x y : Option (List ℕ)) (told : List Line)
    → seen end.number [] ≡ [] → (t : TellsLines seen fresh_text end x y told) → IsBehindLines end → seen 0 t.taken ≡ told
tells_all seen end x y told none t done =
    ap (seen 0) (sym (append-nil t.taken)) ∙ t.lines [] (λ o. refl)
    ∙ ap (λ (l : List ℕ). told ++ seen end.number (l ++ [])) done.none ∙ ap (λ l. told ++ l) none ∙ append-nil told
