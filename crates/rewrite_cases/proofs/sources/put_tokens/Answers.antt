use Rattle.rewrite_cases.proofs.sources.put_tokens.Goals as goal

pub put_rewritten-requires : goal.put_rewritten-requires
put_rewritten-requires c = record { tokens = c.args.tokens.now; lexed_as = c.requires; reads = c.in-Ok.ensures.found }
