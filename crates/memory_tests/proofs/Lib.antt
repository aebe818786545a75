mod UnlentLemmas
