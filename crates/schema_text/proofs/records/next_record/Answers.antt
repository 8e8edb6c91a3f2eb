use Rattle.csv.specs.Records.{fields_of}
use Rattle.schema_text.proofs.Recorded.{found_some, found_none, goes_on}
use Rattle.schema_text.proofs.records.next_record.Goals as goal

pub returns-clause-reading : goal.returns-clause-reading
returns-clause-reading c e =
    goes_on c.args.reader.now c.read_byte_record.new.self (fields_of c.read_byte_record.new.row) c.requires (rw e at (c.in-Ok.ensures.reads c.requires.trim c.requires.ready)) (c.in-Ok.ensures.ready c.requires.trim)

pub returns-clause-found : goal.returns-clause-found
returns-clause-found c e =
    found_some c.args.reader.now c.read_byte_record.new.self (fields_of c.read_byte_record.new.row) c.requires (rw e at (c.in-Ok.ensures.reads c.requires.trim c.requires.ready))

pub returns-clause-none : goal.returns-clause-none
returns-clause-none c e =
    found_none c.args.reader.now c.read_byte_record.new.self (fields_of c.read_byte_record.new.row) c.requires (rw e at (c.in-Ok.ensures.reads c.requires.trim c.requires.ready))
