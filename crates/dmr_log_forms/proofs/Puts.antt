-- Entries that are put one behind another.
use Rattle.std.proofs.Common.{◌≡◌, ℕ, List, [], ◌∷◌, ◌++◌, Option, sym, ap, ◌∙◌, subst, append_assoc, append-nil}
use Rattle.std.specs.Prelude.{Result, Ok, Err}
use Rattle.dmr_log_forms.specs.Part.{PutsByEnd, PutsUpTo}
use Rattle.dmr_log_forms.specs.Printed.{PutsEntries}
use Rattle.dmr_log_forms.specs.declared.columns.EntryColumns.{EntryColumns}
use Rattle.dmr_log_forms.specs.declared.fault.LogFault.{LogFault}
use Rattle.dmr_log_forms.specs.declared.fault.LogFault.TheVariants as why
use Rattle.dmr_log_forms.specs.declared.settings.LogForm.{LogForm}

pub puts_both : (f : LogForm) (xs ys : List EntryColumns) (a b c : Option (List ℕ)) → PutsEntries f xs a b → PutsEntries f ys b c
    → PutsEntries f (xs ++ ys) a c
puts_both f [] ys a b c first next = subst (λ o. PutsEntries f ys o c) first next
puts_both f (x ∷ xs) ys a b c (between, one, rest) next = (between, one, puts_both f xs ys between b c rest next)

-- the same, where not all of those behind are put
pub puts_up_to : (e : LogFault) (f : LogForm) (xs ys : List EntryColumns) (a b c : Option (List ℕ)) → PutsEntries f xs a b
    → PutsUpTo e f ys b c → PutsUpTo e f (xs ++ ys) a c
puts_up_to why.Memory f xs ys a b c first next = record {
  first = xs ++ next.first;
  left = next.left;
  all = ap (λ l. xs ++ l) next.all ∙ sym (append_assoc xs next.first next.left);
  put = puts_both f xs next.first a b c first next.put;
}
puts_up_to why.Output f xs ys a b c first next = tt
puts_up_to (why.File fault) f xs ys a b c first next = next
puts_up_to why.NotUplink f xs ys a b c first next = next
puts_up_to why.Range f xs ys a b c first next = next

-- the same, of a call that may have failed
pub puts_more : {T : Type 0} (r : Result T LogFault) (f : LogForm) (xs ys : List EntryColumns) (a b c : Option (List ℕ))
    → PutsEntries f xs a b → PutsByEnd r f ys b c → PutsByEnd r f (xs ++ ys) a c
puts_more (Ok x) f xs ys a b c first next = puts_both f xs ys a b c first next
puts_more (Err e) f xs ys a b c first next = puts_up_to e f xs ys a b c first next

-- where not all is put of those in front, nothing is of those behind
pub puts_early : (e : LogFault) (f : LogForm) (xs ys : List EntryColumns) (a b : Option (List ℕ)) → PutsUpTo e f xs a b
    → PutsUpTo e f (xs ++ ys) a b
puts_early why.Memory f xs ys a b part = record {
  first = part.first;
  left = part.left ++ ys;
  all = ap (λ l. l ++ ys) part.all ∙ append_assoc part.first part.left ys;
  put = part.put;
}
puts_early why.Output f xs ys a b part = tt
puts_early (why.File fault) f xs ys a b part = part
puts_early why.NotUplink f xs ys a b part = part
puts_early why.Range f xs ys a b part = part

-- the same, of a call that has failed so
pub puts_failed : {T : Type 0} (r : Result T LogFault) (e : LogFault) (f : LogForm) (xs ys : List EntryColumns)
    (a b : Option (List ℕ)) → r ≡ Err e → PutsUpTo e f xs a b → PutsByEnd r f (xs ++ ys) a b
puts_failed r e f xs ys a b same part =
    subst (λ s. PutsByEnd s f (xs ++ ys) a b) (sym same) (puts_early e f xs ys a b part)

-- the same, behind others that are put
pub puts_failed_behind : {T : Type 0} (r : Result T LogFault) (e : LogFault) (f : LogForm) (xs ys : List EntryColumns)
    (a b c : Option (List ℕ)) → r ≡ Err e → PutsEntries f xs a b → PutsUpTo e f ys b c → PutsByEnd r f (xs ++ ys) a c
puts_failed_behind r e f xs ys a b c same first next =
    subst (λ s. PutsByEnd s f (xs ++ ys) a c) (sym same) (puts_up_to e f xs ys a b c first next)

-- behind the last there is nothing more
pub puts_last : {T : Type 0} (r : Result T LogFault) (f : LogForm) (xs : List EntryColumns) (a b : Option (List ℕ))
    → PutsByEnd r f xs a b → PutsByEnd r f (xs ++ []) a b
puts_last r f xs a b put = subst (λ l. PutsByEnd r f l a b) (sym (append-nil xs)) put
