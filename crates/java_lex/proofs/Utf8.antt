-- Where bytes stop being UTF-8.
use Rattle.std.proofs.lemmas.Str.{utf8_valid_len_le, utf8_valid_len-IsUtf8}

pub ruleset valid_texts = (utf8_valid_len-IsUtf8, utf8_valid_len_le)
