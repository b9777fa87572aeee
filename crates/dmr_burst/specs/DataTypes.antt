-- The numbers of the standard that have names: LCSS, and the data types of data bursts, of which those from 12 to 15 are reserved.
-- ETSI TS 102 361-1, clauses 9.3.3 and 9.3.6.
use Rattle.std.specs.Prelude.{ℕ}

abbrev pub single_fragment : ℕ
single_fragment = 0

abbrev pub first_fragment : ℕ
first_fragment = 1

abbrev pub last_fragment : ℕ
last_fragment = 2

abbrev pub continuation_fragment : ℕ
continuation_fragment = 3

abbrev pub pi_header : ℕ
pi_header = 0

abbrev pub voice_lc_header : ℕ
voice_lc_header = 1

abbrev pub terminator_with_lc : ℕ
terminator_with_lc = 2

abbrev pub csbk : ℕ
csbk = 3

abbrev pub mbc_header : ℕ
mbc_header = 4

abbrev pub mbc_continuation : ℕ
mbc_continuation = 5

abbrev pub data_header : ℕ
data_header = 6

abbrev pub rate_half_data : ℕ
rate_half_data = 7

abbrev pub rate_three_quarters_data : ℕ
rate_three_quarters_data = 8

abbrev pub idle : ℕ
idle = 9

abbrev pub rate_one_data : ℕ
rate_one_data = 10

abbrev pub unified_single_block_data : ℕ
unified_single_block_data = 11
