-- The plain fragment of parts that are not checked yet.
use Rattle.kernel_lang.specs.declared.parts.Parts.{Parts}
use Rattle.kernel_lang.specs.Plain.{Fragment, fragment}

abbrev pub parts_of : Parts → Fragment
parts_of p = fragment p.lists p.atoms p.accs p.entries p.known
