-- The plain fragment that a valid fragment of the code is.
use Rattle.kernel_lang.specs.declared.fragment.KFragment.{KFragment}
use Rattle.kernel_lang.specs.Plain.{Fragment, fragment}

abbrev pub fragment_of : KFragment → Fragment
fragment_of f = fragment f.lists f.atoms f.accs f.entries f.known
