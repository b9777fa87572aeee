-- The exit statuses of a comparison.
use Rattle.std.specs.Prelude.{ℕ, ◌==◌, ◌&&◌, if◌then◌else◌}
use Rattle.dmr_compare.specs.declared.counts.PlaceCounts.{PlaceCounts}

-- the two are the same, of what is compared
abbrev pub same : ℕ
same = 0

-- they differ
abbrev pub different : ℕ
different = 1

-- they couldn't be compared to their ends
abbrev pub trouble : ℕ
trouble = 2

-- the status behind what was counted: the same where nothing differs and nothing stands in one of the two alone
abbrev pub counted_status : PlaceCounts → ℕ
counted_status counts =
    if counts.different == 0 && counts.only_in_first == 0 && counts.only_in_second == 0 then same else different
