mod OneDump
