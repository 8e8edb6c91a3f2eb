-- What a reader of the records of a text has left.
use Rattle.std.specs.Prelude.{◌≡◌, ℕ, suc, List, [], length, unwrap_or}
use Rattle.std.specs.Borrow.{Bor}
use Rattle.std.specs.declared.option.Option.{Option}
use Rattle.std.specs.declared.option.Option.TheVariants.{Some}
use Rattle.csv.specs.Reading.{Ready, default_config, reader_config, reader_trim, reader_state, source_of, records_from}
use Rattle.csv.specs.declared.parser.State.{State}
use Rattle.csv.specs.declared.reader.Reader.{Reader}
use Rattle.csv.specs.declared.reader.Trim.TheVariants as trim

-- a reader over bytes in memory
abbrev pub ByteReader : Type 0
ByteReader = Reader (Bor (List ℕ))

abbrev pub source : ByteReader → Option (List ℕ)
source r = source_of (λ s. Some s.now) r

-- the bytes are known, and the next read is of one record, by the defaults
pub record IsReading (r : ByteReader) : Type 0 where
  pub trim : reader_trim r ≡ trim.None
  pub ready : Ready r
  pub config : reader_config r ≡ default_config
  pub bytes : List ℕ
  pub known : source r ≡ Some bytes

-- all records of bytes from a state: each takes a byte at least, but for one at the end
abbrev pub records_left : State → List ℕ → List (List (List ℕ))
records_left s bytes = records_from default_config (suc (suc (length bytes))) s bytes

-- the records that a reader has left
abbrev pub records_in : ByteReader → List (List (List ℕ))
records_in r = records_left (reader_state r) (unwrap_or (source r) [])
