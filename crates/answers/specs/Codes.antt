-- 01, "Codes": the table's numbers by their names.
use Rattle.std.specs.Prelude.{ℕ}

abbrev pub done : ℕ
done = 0

abbrev pub bad_size : ℕ
bad_size = 1

abbrev pub no_room : ℕ
no_room = 2

abbrev pub bad_offsets : ℕ
bad_offsets = 3

abbrev pub bad_vertex : ℕ
bad_vertex = 4

abbrev pub bad_root : ℕ
bad_root = 5

abbrev pub not_symmetric : ℕ
not_symmetric = 6

abbrev pub disconnected : ℕ
disconnected = 7

abbrev pub has_cycle : ℕ
has_cycle = 8

abbrev pub bad_table : ℕ
bad_table = 9

abbrev pub too_far : ℕ
too_far = 10

abbrev pub bad_file_code : ℕ
bad_file_code = 11
